-- The laws that the proofs of the insertion cite.
pub mod Taking
pub mod Carrying
pub mod Entering
