-- The call that a run is.
pub mod Call
