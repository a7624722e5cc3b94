-- The numbers that a return is in a lent part.
pub mod Numbers
