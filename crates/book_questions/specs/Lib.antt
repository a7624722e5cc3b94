-- What the code asks, in the forms in which it asks it.
pub mod Asked
pub mod Zeros
pub mod Opened
pub mod Refused
