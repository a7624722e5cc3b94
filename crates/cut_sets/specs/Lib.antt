-- Document 02, ask 8: sets of trades as binary numbers, the search among them, and what is claimed of it.
pub mod Sets
pub mod Search
pub mod Places
pub mod Claims
pub mod Found
pub mod Counting
