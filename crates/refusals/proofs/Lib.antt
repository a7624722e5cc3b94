-- What follows for the numbers of refusals.
pub mod Numbers
