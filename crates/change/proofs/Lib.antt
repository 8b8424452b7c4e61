-- The laws behind the changes on a checked pool, a way out at a time.
pub mod Changed
