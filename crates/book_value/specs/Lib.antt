-- What a book is that was opened.
pub mod Opened
-- A book written from its fields.
pub mod Written
