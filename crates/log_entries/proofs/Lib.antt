-- Laws of what is written in a log: parts that were lent, an entry cut by cut, and the entries after it.
pub mod Parts
pub mod Cuts
pub mod Entries
pub mod Spread
pub mod Reductions
pub mod Fitting
