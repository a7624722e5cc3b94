-- The eligible trades of a user, read one by one, and the ways out of the call.
pub mod Eligible
pub mod Ways
