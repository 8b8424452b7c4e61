-- The shared types' meaning: pairs (Pairs), an answer and its codes (Codes, Answer), what a call promises and how it refuses (Promise).
-- Making, Shape and Placed tie the code to these.
pub mod Pairs
pub mod Codes
pub mod Answer
pub mod Making
pub mod Promise
pub mod Shape
pub mod Placed
