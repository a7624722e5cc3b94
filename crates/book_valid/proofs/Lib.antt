-- The law of the test of a trade.
pub mod Known
