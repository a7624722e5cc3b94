-- What follows of acting parties: the questions 1 to 7, 26, 15 to 17 and 19 one after the other; the operator's requests are those without a party; a shipper's acts are refused; what a
-- shipper is told depends on what it may see alone.
pub mod Entered
pub mod Operator
pub mod Own
pub mod Numbers
pub mod Replied
pub mod Logged
pub mod Failing
pub mod Parts
pub mod Agree
