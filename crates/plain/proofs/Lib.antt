-- Laws about plain lists of pairs.
pub mod Apart
pub mod Those
pub mod Having
pub mod Closest
pub mod Scan
pub mod Counts
pub mod Alike
pub mod Lines
pub mod Limits
