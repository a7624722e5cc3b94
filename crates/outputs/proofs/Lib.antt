-- The ways out of a call that writes to an output.
pub mod Ways
