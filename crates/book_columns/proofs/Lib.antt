-- Rearranged bytes: what is read of them, and back.
pub mod Rearranged
-- Books to forms and back.
pub mod Forms
-- Parts copied and written.
pub mod Written
