-- The laws that the proofs of the listing cite.
pub mod Filling
pub mod ListWalk
pub mod ListTop
