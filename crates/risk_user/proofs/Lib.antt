-- What an accepted book tells of its users.
pub mod Accepted
-- Laws of what is read of a user and of its state, and that they are the rules'.
pub mod Money
pub mod Borne
pub mod Held
pub mod Targets
pub mod States
pub mod Rules
