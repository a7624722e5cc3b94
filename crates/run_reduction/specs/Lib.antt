-- What a reduction on arrays starts from: numbers, and the book in bytes that they are of.
pub mod Books
pub mod Reductions
