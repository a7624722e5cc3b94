-- The acts that the public calls are.
pub mod Acts
