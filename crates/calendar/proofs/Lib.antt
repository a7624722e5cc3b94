-- A table's rule at each of its entries, and what the table of month lengths says of a month.
pub mod Table
pub mod Months
