-- The next row is the pair with the smallest x above the last one's.
pub mod Next
