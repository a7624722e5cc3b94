-- What the signed amounts, the prices and the limits of the code stand for.
pub mod Amounts
pub mod Prices
pub mod Limits
