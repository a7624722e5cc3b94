-- Laws of a part of a list
pub mod Parts
-- of the elements that pass a test
pub mod Kept
-- the trades of a tier by their numbers
pub mod Lots
pub mod Ranges
-- the book as its risk is borne
pub mod Sums
pub mod Borne
pub mod Alone
-- whose sale a trade is
pub mod Own
-- the cuts of a tier
pub mod Tiers
-- cuts of own sales and of all trades
pub mod Cuts
pub mod Numbers
-- positions after the cuts
pub mod Settled
pub mod Valid
pub mod FirstCuts
-- who is called in, short of cover and eligible after the cuts
pub mod Cover
-- a reduction, and whom it leaves as they were
pub mod Reduced
-- the sales of all users in one list
pub mod Groups
pub mod Listed
pub mod Count
pub mod Origins
pub mod Apart
pub mod Standing
pub mod Written
pub mod Whole
pub mod Again
-- the user that is reduced next
pub mod Next
