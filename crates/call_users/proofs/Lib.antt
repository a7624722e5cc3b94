-- What one user is told of, and the rows of all.
pub mod User
pub mod Filled
