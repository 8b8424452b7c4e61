pub mod Sons
