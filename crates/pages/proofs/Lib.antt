-- The laws on the pairs by ascending x and on written bytes, and what the book means.
pub mod Ascending
pub mod Bytes
