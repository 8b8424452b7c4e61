-- What a line does and prints (Script); Writing ties the code to it.
pub mod Script
pub mod Writing
