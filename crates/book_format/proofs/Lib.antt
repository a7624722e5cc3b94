-- What follows for a book in bytes: what the questions tell,
pub mod Formed
pub mod Passed
-- read and written again, written and read again,
pub mod Round
pub mod Written
-- one user's record changed in place
pub mod OneUser
-- Laws of parts of records among bytes, of a user's position in them, of records that fit their bytes, and of a book held in bytes of which a part is set.
pub mod Parts
pub mod Positions
pub mod Fits
pub mod Held
-- Laws of where users and trades begin, and of a user and of a trade by their places.
pub mod Offsets
-- Version 1 as document 01 has it.
pub mod Versions
pub mod Places
-- The questions 1 to 3 of short books.
pub mod Examples
