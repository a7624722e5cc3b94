-- The list as the loop has it.
pub mod Turns
