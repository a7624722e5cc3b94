-- Laws of the highest sales of a tier.
pub mod Worths
pub mod Sweeping
pub mod Cutting
pub mod Keeping
pub mod After
