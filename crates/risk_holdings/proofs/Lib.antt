-- Laws of needs.
pub mod Needs
