-- Laws of positions that move within a bound, and of trades that rise one after the other.
pub mod Bounds
pub mod Back
pub mod Tallies
