-- Laws of the loops over what stands and what was lost, and of a run's start and its end.
pub mod Losing
pub mod Start
pub mod Ending
