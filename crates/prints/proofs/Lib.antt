-- The laws on what is printed, and on how many bytes are enough for it.
pub mod Putting
