-- The levels and the states of all users of a book, told in one call, and what is claimed of them.
pub mod Levels
pub mod Claims
