-- What the questions of the book and those of the store give together, and that of a lent log after them.
mod Asked
pub mod Log
