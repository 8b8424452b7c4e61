-- What digits are worth.
pub mod Digits
