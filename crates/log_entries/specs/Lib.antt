-- What is written in a log: an entry by the places of its cuts, and the entries that bytes have.
pub mod Entries
