-- Groups: the laws as statements.
pub mod Statements
