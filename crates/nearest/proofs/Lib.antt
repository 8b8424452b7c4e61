-- The laws that the proof of the x walks cites.
pub mod Turns
pub mod Stops
pub mod Sides
pub mod Rows
pub mod GoesOn
pub mod AtTurn
