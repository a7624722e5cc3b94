-- What follows for a book that is written.
pub mod PartWritten
