-- Laws of a run's arrays.
pub mod Stays
pub mod Reduced
pub mod Moves
pub mod Own
pub mod Turned
pub mod Left
pub mod Grouped
