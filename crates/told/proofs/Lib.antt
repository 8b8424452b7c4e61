-- The laws that the proofs of the C calls cite, and that a promise to a caller in C allows one result alone.
pub mod Telling
pub mod Promised
