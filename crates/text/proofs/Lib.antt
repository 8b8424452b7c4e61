-- The laws on what is printed, and on how it reads.
pub mod Printing
pub mod Decimal
