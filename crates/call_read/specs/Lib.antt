-- A book read into an image by an acting party.
pub mod Image
