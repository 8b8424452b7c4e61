-- The one line that asks for something.
pub mod Spelled
