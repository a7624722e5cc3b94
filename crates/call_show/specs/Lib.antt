-- The shown record.
pub mod Shown
