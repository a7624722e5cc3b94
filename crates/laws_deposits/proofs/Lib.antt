-- The laws of deposits.
pub mod Deposits
