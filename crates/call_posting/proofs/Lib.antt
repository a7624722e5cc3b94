-- The ways out of the posting, and the bytes that it sets.
pub mod Bytes
pub mod Ways
