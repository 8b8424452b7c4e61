-- The corrected walks.
pub mod Walks
