-- The marked cases hold; no wrong program keeps a promise; what is found next.
pub mod Cases
pub mod Samples
pub mod Wrong
pub mod Next
