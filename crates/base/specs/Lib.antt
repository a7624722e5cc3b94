-- The parts of an integer above and below 0, sums over lists, and tests of every and of some element.
pub mod Parts
pub mod Sums
pub mod Lists
pub mod Basics
