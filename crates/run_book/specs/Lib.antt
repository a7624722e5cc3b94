-- What the sales of a run lose, and what the run gives.
pub mod Books
