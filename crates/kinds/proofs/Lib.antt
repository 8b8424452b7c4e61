-- Laws about tests, pairs, answers and tables of refusals.
pub mod Tests
pub mod Order
pub mod Numbers
pub mod Tables
pub mod Promised
pub mod Placing
