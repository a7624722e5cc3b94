-- Laws of the signed amounts.
pub mod TwosComplement
pub mod Amounts
