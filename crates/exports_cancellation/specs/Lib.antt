-- The numbers that a whole cancellation is in two lent parts.
pub mod Numbers
