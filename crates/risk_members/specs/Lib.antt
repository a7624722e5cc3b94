-- What one user has as its risk is borne, and the sums over those whose risk it bears.
pub mod Sums
pub mod Members
