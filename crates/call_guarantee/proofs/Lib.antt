-- The ways out of a level and of a guarantee call.
pub mod Ways
