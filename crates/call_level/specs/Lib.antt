-- The two times of the day.
pub mod Times
