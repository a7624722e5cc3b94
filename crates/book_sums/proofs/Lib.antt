-- Laws of the sums, of positions by them, and of walks over records in bytes.
pub mod Positions
pub mod Sums
pub mod Twelve
pub mod Walk
