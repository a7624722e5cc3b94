-- Places and sums, with managers and without.
pub mod Borne
