-- The ways out of the two calls.
pub mod Ways
