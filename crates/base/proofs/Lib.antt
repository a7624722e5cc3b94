-- Laws of integers and of sums
pub mod Linear
pub mod Sums
-- of what the machine keeps of a signed number
pub mod Signs
-- of tests
pub mod Tests
-- of what is stored at a place of a list, and of a loop that stores place by place
pub mod Stores
pub mod Storing
-- Laws of the front of an array, of a loop that rewrites it, and of one that asks every element.
pub mod Fronts
pub mod Rewriting
pub mod Every
