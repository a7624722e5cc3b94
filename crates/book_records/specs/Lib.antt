-- A user and a trade: in bytes, in the rules, and as the code's structs.
pub mod User
pub mod Trade
