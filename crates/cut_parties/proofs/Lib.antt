-- Laws of the walks over trades by the places of their parties.
pub mod Cut
