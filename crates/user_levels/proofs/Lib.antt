-- What is claimed of the levels of all users.
pub mod Asked
pub mod Rows
