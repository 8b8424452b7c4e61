-- The laws that the proofs of the walk for the smallest y cite.
pub mod YWalk
