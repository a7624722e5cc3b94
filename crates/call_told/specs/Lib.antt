-- What a shipper is told of itself.
pub mod Seen
pub mod Told
