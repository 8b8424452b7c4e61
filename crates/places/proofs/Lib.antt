-- What is there at a place that a link leads to.
pub mod Here
