-- The acting party and the matter of the definitions that the code's are.
pub mod Acting
