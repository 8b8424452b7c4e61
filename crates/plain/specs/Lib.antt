-- A book as a plain list: what each question finds in it (Plain), the calls over it (Books), strips and their calls (Strips).
pub mod Plain
pub mod Books
pub mod Strips
