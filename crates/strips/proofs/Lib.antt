-- What the strip calls mean, in a rider's words, and the bounds on their visits.
pub mod Rider
pub mod Bounds
