-- The stored book (Book), and how the code writes it (Writing).
pub mod Book
pub mod Writing
