-- Laws of a part of the sales as a tier.
pub mod Rates
