-- Sums of what users sold and bought, and positions by them.
pub mod Sums
pub mod Twelve
pub mod Positions
