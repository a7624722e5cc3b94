-- The numbers that the levels of all users are in a lent part.
pub mod Numbers
