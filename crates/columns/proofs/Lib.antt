-- There and back.
pub mod Columnar
-- Fields moved are columns.
pub mod Moved
-- The turns of the loops.
pub mod Turns
