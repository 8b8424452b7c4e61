-- The laws on a line's one result, and on the line that asks for something.
pub mod Promised
pub mod Spelling
