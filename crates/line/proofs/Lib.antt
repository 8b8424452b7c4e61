-- The laws on words and lines that the proofs of the reading cite.
pub mod Words
pub mod Lines
