-- 01's marked cases, and programs that are tried against the promises.
pub mod Cases
pub mod Wrong
pub mod Samples
pub mod Next
