-- What the state of a user says of the questions 9, 11 and 13, and how what follows them is asked.
pub mod Asked
