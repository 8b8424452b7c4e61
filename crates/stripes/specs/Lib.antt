-- A stripe and its halves (Stripe). Heights ties the code to it.
pub mod Stripe
pub mod Heights
