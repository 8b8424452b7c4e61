-- The ways out for a slot's own pair.
pub mod Own
