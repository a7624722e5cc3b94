-- The beginning of a call on a user.
pub mod Entered
