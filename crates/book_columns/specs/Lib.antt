-- A book field by field, and the book that such a form yields.
pub mod Form
-- The two calls.
pub mod Calls
-- What is claimed of the two.
pub mod Statements
