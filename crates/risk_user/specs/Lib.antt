-- What is read of the user at a place, and its state.
pub mod UserAt
pub mod States
