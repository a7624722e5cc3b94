-- What the functions of the C interface leave in the parts lent to them.
pub mod Lent
pub mod Answers
