-- Cuts that are given back, by the places of the parties.
pub mod Back
