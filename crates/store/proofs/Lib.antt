-- Laws of a store's sets as the code asks them, and of the figures that a store gives.
pub mod Sets
pub mod Ways
