-- The laws that the proofs of the two functions cite.
pub mod Seating
