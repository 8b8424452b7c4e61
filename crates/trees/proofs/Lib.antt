-- Laws about trees: what holds of all members, how a tree changes, and taking back.
pub mod Trees
pub mod GoDown
pub mod TakeOut
pub mod Back
pub mod Same
pub mod Members
pub mod Levels
pub mod Halving
pub mod Clauses
pub mod Standing
