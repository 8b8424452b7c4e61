pub mod Promises
pub mod Tested
