-- The laws on a part of a slice, and on the pool at the start.
pub mod Parts
pub mod Started
