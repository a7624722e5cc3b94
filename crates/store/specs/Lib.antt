-- The store of parameter sets, and what the code ensures of it.
pub mod Store
pub mod Asked
