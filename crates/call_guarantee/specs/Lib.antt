-- The two times of the day, and how a guarantee call ends.
pub mod Times
pub mod Raised
