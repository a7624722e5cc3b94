-- The line of the rules that a line of the code is, and what it is told from.
pub mod Lines
