-- Laws of a user's and a trade's bytes, of the code's structs, and of amounts per area.
pub mod Amounts
pub mod Users
pub mod Trades
pub mod Blank
