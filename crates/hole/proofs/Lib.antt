-- The laws that the proofs of the deletion cite.
pub mod Cuts
pub mod Heired
pub mod Filling
pub mod Deletion
