-- What is claimed of a sequence of requests on a book in bytes.
pub mod Links
pub mod ContractLinks
pub mod Totals
pub mod Claim
pub mod RunLength
pub mod Deposits
pub mod Logs
pub mod Acting
