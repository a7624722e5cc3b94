-- The laws of groups.
pub mod Nothing
pub mod Main
pub mod Levels
