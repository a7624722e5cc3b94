-- Laws of the table of a return: the loop that fills it.
pub mod Tables
