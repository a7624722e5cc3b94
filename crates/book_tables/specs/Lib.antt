-- A record, and arrays of records.
pub mod Record
pub mod Filled
-- The book as the code's struct, and the book of the rules that it is.
pub mod Book
