-- The promises of every call on a pool that has been checked (Promises); Checked says that the pool is sound again.
pub mod Promises
pub mod Checked
