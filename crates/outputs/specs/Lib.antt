-- What a call that writes to a lent output gives.
pub mod Output
