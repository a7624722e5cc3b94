-- Laws of a list's ids, of its lines one after another, and of its opening questions.
pub mod Ids
pub mod Turns
pub mod Opened
