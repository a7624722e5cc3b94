-- The posting.
pub mod Posting
