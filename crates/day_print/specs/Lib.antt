-- What the lines of a day are told from.
pub mod Lines
