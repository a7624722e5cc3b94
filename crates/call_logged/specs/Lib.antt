-- What a call with a log gives, after its opening questions.
pub mod Given
