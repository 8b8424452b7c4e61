-- Laws about the cells of a pool: soundness decided, the stored list, and the cells after a change.
pub mod Leads
pub mod Decided
pub mod Held
pub mod Fresh
pub mod Pigeonhole
pub mod Agreement
pub mod Slots
pub mod Stored
pub mod Laying
pub mod Changed
pub mod Inserted
pub mod Deleted
pub mod TakenBack
pub mod InTree
