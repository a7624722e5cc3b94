-- What follows for the log of reductions and for withdrawals.
pub mod Padded
pub mod Parts
pub mod Written
pub mod Raises
pub mod Read
pub mod Withdrawal
pub mod Noted
pub mod Main
-- What is at the boundaries of its questions.
pub mod Boundaries
