-- Sums over some users, one after the other; what is read of a user; what one holds as its risk is borne.
pub mod Sums
pub mod Members
pub mod Holdings
