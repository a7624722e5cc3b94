-- The ways out of the call, the cuts of the user, and their entry in a log.
pub mod Ways
pub mod Cuts
pub mod Entry
