-- What a listing shows, and how many slots a question and a listing may visit.
pub mod Showing
