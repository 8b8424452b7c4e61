-- The laws behind the calls that write into a second slice.
pub mod Listed
pub mod Saved
