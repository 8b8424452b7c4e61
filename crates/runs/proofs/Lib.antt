-- What the promises mean over runs of calls: over a plain list, and taken back.
pub mod Fits
pub mod Ends
pub mod Played
pub mod TakenBack
