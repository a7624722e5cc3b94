-- The test of a trade by itself.
pub mod Given
