-- What is written into the lent cells, and the count.
pub mod Jotting
