-- Header, users and trades of a book as another version.
pub mod Parts
-- What is kept of it.
pub mod Kept
-- The whole.
pub mod Whole
