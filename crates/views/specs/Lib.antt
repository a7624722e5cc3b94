-- Document 02, "Who may see and do what": what a party may see of a book.
pub mod Kept
pub mod Views
pub mod Claim
