-- The questions 9, 11 and 13 of a user, and its target.
pub mod Asked
