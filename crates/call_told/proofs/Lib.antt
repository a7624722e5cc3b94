-- What a shipper is told of itself, as the code finds it.
pub mod Asked
pub mod Seen
pub mod Stands
