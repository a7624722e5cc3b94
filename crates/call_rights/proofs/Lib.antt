-- Question 26 as the code asks it.
pub mod Ways
