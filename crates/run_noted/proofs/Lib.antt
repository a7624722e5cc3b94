-- Laws of a run of as many reductions as a log has room for.
pub mod Budget
pub mod Rounds
pub mod Books
