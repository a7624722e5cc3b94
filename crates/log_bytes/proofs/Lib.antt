-- Laws of two lists compared, and of a walk that asks every place.
pub mod Walks
