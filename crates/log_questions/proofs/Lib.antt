-- Laws of the form of a log, of sums of cuts, and of trades with what is cut of them.
pub mod Form
pub mod Cuts
pub mod Entries
