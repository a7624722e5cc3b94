-- Laws of tests, of sets as binary numbers, of their worths and their marks by trade place, of marks read as numbers, of the search, of the worths given, of tables of them, and of the count from below; examples.
pub mod Tests
pub mod Sets
pub mod Marking
pub mod Claims
pub mod Places
pub mod Reading
pub mod Gathering
pub mod Given
pub mod Tables
pub mod Counting
pub mod Examples
