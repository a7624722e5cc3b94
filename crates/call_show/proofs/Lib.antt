-- The ways out of a shown record.
mod Ways
