-- A call and a query with their setting: on a book, on a book in bytes, and the contract of the public functions.
pub mod Request
pub mod Carried
pub mod Cancellation
pub mod Logged
