-- Laws of the questions as the code asks them.
pub mod Loops
pub mod Known
pub mod Asked
pub mod Asking
pub mod Managers
pub mod Zeros
pub mod Handed
