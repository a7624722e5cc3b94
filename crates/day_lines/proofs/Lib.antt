-- Laws of a line by its user's place.
pub mod Places
