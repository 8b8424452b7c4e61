-- The tree, and how it changes. Standing serves the laws on the cells.
pub mod Tree
pub mod Standing
pub mod Changes
