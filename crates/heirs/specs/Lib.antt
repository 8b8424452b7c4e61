pub mod Heirs
