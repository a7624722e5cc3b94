-- The theorem over any finite sequence of requests with one store and whatever logs, and its parts: one call and one act by the rules, without a log and with one, one on bytes, the
-- trades' bytes. That the contracts of the public functions give its links. How long a run can be, and what deposit stops it. The log theorem.
pub mod Step
pub mod Acts
pub mod Entered
pub mod TradeBytes
pub mod Sequence
pub mod Contracts
pub mod RunLength
pub mod Deposits
pub mod Traced
pub mod Logs
pub mod Acting
