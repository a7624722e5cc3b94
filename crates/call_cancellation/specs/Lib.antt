-- The questions of a whole cancellation past the user's id, and the user's eligible trades.
pub mod Call
pub mod Sales
