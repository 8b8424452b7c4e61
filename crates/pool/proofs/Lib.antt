-- What the calls mean: the stored set after a change, what a listing shows, and the bounds on visits.
pub mod Changes
pub mod Shown
pub mod Bounds
