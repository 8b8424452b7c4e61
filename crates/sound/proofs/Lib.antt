-- The laws that the proofs of the functions cite, and what the two calls mean.
pub mod Whole
pub mod Meaning
pub mod Lines
pub mod Judged
pub mod Tested
