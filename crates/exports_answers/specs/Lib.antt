-- The numbers that an answer is in a lent part.
pub mod Numbers
