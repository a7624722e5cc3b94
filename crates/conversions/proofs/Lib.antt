-- No rule but the questions of the header looks at the version.
pub mod Alike
-- A book as a version to which nothing is lost is accepted.
pub mod Kept
-- What an act gives on a book as a version.
pub mod Acts
-- There and back in bytes, and the claim.
pub mod Conversions
-- Flag and trades.
pub mod Told
-- The converter by an acting party.
pub mod Acting
