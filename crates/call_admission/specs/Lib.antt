-- Question 19 of a lent log.
pub mod Log
