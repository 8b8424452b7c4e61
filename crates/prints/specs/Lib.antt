-- What a line prints (Rows), and what one prints that is refused before its call (Refused).
pub mod Rows
pub mod Refused
