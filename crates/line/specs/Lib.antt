-- What a line asks (Line), and how the code reads it (Reading).
pub mod Line
pub mod Reading
