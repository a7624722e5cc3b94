-- The ways out of the call.
pub mod Ways
