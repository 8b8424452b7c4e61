-- A word as a number (Decimal), and what the code reads of it (Reading).
pub mod Decimal
pub mod Reading
