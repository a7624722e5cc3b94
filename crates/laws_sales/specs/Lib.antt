-- A part of a list, the elements of a list that pass a test, a book as its risk is borne, whose sale a trade is, a user's own sales, whether a trade of a user stands below notified, what cover is read from, a reduction and the sales of all users in one list.
pub mod Parts
pub mod Kept
pub mod Borne
pub mod Own
pub mod Sales
pub mod Parties
pub mod Cover
pub mod Lots
pub mod Reduced
pub mod Groups
