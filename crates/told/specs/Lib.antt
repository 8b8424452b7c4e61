-- What a caller in C is told.
pub mod Told
