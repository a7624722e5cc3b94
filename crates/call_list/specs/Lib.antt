-- A list of postings after its opening questions.
pub mod Lines
