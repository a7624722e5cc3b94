-- Places of parties; a book as its risk is borne, by places.
pub mod Places
pub mod Borne
-- Laws of trades as they are borne, listed and counted one after the other.
pub mod Trades
-- Laws of amounts summed over those whose risk a user bears.
pub mod Rows
-- Laws of the table.
pub mod Table
pub mod Bearing
