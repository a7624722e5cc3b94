-- The highest sales of a tier: their places, their cuts, and what is kept of a seller between two reductions.
pub mod Peaks
pub mod Keeping
