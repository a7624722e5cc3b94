-- What follows from the rules. Questions:
pub mod Refusals
pub mod Sound
-- users, positions, trades, and what a call did to a book
pub mod Areas
pub mod Users
pub mod Bearers
pub mod Managers
pub mod Positions
pub mod Trades
pub mod Moved
-- each call
pub mod Changed
pub mod Posting
pub mod Guarantee
pub mod Settle
pub mod Ranks
pub mod Shares
pub mod Cuts
pub mod Reduction
pub mod Run
-- numeric bounds
pub mod Bounds
-- what is borne by a user
pub mod Members
pub mod Levels
-- a version without selling tariffs
pub mod Credit
-- a run whose fuel suffices
pub mod Fuel
-- the main laws, as specs/Statements.antt has them
pub mod Main
