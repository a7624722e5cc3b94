-- The ways out of a level.
mod Ways
