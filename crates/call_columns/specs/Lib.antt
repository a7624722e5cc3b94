-- A book rebuilt from its form.
pub mod Rebuilt
