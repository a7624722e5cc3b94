-- The ways out of question 19 and of an emptied log.
mod Ways
