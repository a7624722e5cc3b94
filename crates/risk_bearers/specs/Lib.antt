-- Who bears whose risk, by places; trades between those who bear it.
pub mod Bearers
pub mod Rows
