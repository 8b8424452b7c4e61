-- The laws on a slim stripe and its parts.
pub mod Slims
