-- What the proofs of several functions use.
mod Lent
mod Shown
