-- Reading by a party.
pub mod Ways
