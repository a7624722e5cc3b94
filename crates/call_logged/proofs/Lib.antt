-- The ways out of the calls with a log.
pub mod Ways
pub mod LastEntry
