-- What lowering trades by their cuts does.
pub mod Lowering
