-- Laws about the walks: what they find, and the bounds on their visits.
pub mod Best
pub mod Outside
pub mod Finds
pub mod Lists
pub mod AnyOrder
pub mod Sizes
pub mod Ranges
pub mod Visits
pub mod ListVisits
