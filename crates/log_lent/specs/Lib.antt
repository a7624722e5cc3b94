-- A lent log that can be emptied.
pub mod Lent
