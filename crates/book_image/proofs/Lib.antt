-- Parts filled up, records cut or filled up to another size, and both one after the other.
pub mod Filled
pub mod Fitted
pub mod Copied
-- Records whose zero bytes are 0; parts copied whole, and the loop that makes a field 0 in each record.
pub mod Zeroed
pub mod Turns
-- The book of an image's fields, and the round trip of an image.
mod Fields
pub mod RoundTrip
