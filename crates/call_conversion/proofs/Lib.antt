-- The ways out of a conversion.
pub mod Ways
