-- The laws that the proofs of the chain's check cite.
pub mod FreeChain
