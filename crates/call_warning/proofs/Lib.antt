-- The ways out of a warning.
pub mod Ways
