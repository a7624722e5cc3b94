-- Laws of a reduction on arrays, and of what it starts from.
pub mod Steps
pub mod Filled
pub mod Start
