-- The laws that the proofs of the tree's check cite.
pub mod Sons
pub mod Counting
pub mod Sides
