-- Yes and no as numbers.
pub mod Bits
