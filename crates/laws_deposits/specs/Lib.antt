-- Deposits: the laws as statements.
pub mod Deposits
