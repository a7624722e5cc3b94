-- What the parts of question 19 start from.
pub mod Form
