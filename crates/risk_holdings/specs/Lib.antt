-- The holdings of the rules that the code's structs are.
pub mod Holdings
