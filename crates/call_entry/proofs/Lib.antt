-- What follows for the questions of a call on a user, and the walk to its place.
pub mod Seeking
pub mod Asked
pub mod Calls
