-- Records cut or filled up to another size.
pub mod Fitted
-- The fields of a book as bytes of one length.
pub mod Image
-- Records with a field as 0.
pub mod Zeroed
-- The book that an image's fields are.
pub mod ImageBook
