-- A book of any version as any other.
pub mod Conversion
-- What is claimed of it.
pub mod Statements
-- The converter by an acting party.
pub mod Acting
