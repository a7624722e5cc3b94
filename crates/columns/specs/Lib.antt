-- Records field by field, and back.
pub mod Columns
-- Fields moved from one list to another.
pub mod Moves
-- What is claimed of the two.
pub mod Statements
