-- Laws of the return of shrinkage: the loops of the code, the ways out of a call, and the main laws.
pub mod Places
pub mod Days
pub mod Balances
pub mod Totals
pub mod Division
pub mod Ways
pub mod Gains
pub mod Main
