-- The log of reductions in bytes, what a reduction and a run note in it, and what a withdrawal gives back.
pub mod Log
pub mod Fits
pub mod Withdrawal
pub mod Noted
pub mod Statements
