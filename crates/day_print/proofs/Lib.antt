-- Laws of a book that was run, and of what its lines are told from.
pub mod Ran
pub mod Told
