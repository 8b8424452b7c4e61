-- The tests of a length, and the turns in which the slots are chained as free.
pub mod Lengths
pub mod Chaining
