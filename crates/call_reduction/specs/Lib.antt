-- The call that a reduction is, the questions that are its own, the book that it reduces, and a lent log.
pub mod Call
pub mod Books
pub mod Log
