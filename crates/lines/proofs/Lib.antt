-- The laws on what a line prints.
pub mod Answering
