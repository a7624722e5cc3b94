-- What raising a blocked guarantee does.
pub mod Raising
