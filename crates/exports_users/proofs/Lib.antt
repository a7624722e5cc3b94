-- The rows of users stored one after the other.
pub mod Rows
