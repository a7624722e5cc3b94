-- A book in bytes.
pub mod Book
pub mod Versions
pub mod Questions
pub mod Steps
pub mod After
-- A book held in bytes, an accepted one, and its records by their places.
pub mod Held
pub mod Places
