-- Document 02, "Who may see and do what": the acting party, what it asks for and is given, what it may see in bytes, and what is claimed of its answers.
pub mod Party
pub mod Acting
pub mod Logged
pub mod Read
pub mod Outputs
pub mod Trades
pub mod Seen
pub mod Claim
