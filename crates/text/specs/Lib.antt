-- How numbers, strips and matches are printed (Text), and how the code stores them (Writing).
pub mod Text
pub mod Writing
