-- What a party may see is its own and what it manages; what it is told of itself depends on what it may see alone.
pub mod Kept
pub mod Ids
pub mod Seen
pub mod Told
