-- The laws that the proofs of the three functions cite.
pub mod Finding
