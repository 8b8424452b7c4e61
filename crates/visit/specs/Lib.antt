pub mod Nearer
pub mod Asking
pub mod Sides
