-- The laws that the proofs of the search and of both changes cite.
pub mod Links
pub mod Sides
pub mod Replacing
pub mod Counting
pub mod Ways
