-- Every call in one definition; runs of calls, over cells and over a plain list; runs of any calls, and taking them back.
pub mod Calls
pub mod Playing
pub mod TakingBack
