-- The laws that the proofs of the walks share.
pub mod Finding
pub mod Places
pub mod Sons
pub mod Top
