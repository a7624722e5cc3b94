-- Who is warned.
pub mod Warned
