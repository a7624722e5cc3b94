-- The replies and the answers of the rules, and what document 02's calls and the levels of all users give, that the code's answers are.
pub mod Level
pub mod Warning
pub mod Call
pub mod Reduction
pub mod Run
pub mod Cancellation
pub mod Withdrawal
pub mod Told
pub mod Levels
