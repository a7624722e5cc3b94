-- What follows for requests: after their opening questions, where these are passed or refuse, in no setting, and for lists of postings.
pub mod Opened
pub mod Passed
pub mod Plain
pub mod Lines
pub mod Cancellation
pub mod Logged
pub mod Emptied
pub mod Accepted
pub mod Order
-- Figures at the boundaries of document 02's questions.
pub mod Boundaries
