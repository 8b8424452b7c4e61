-- The laws on the closer of two pairs.
pub mod Closer
