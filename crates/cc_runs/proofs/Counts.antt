-- The counts of the list beside its history, after every run.
pub mod State
pub mod Ended
pub mod Grow
pub mod Laws
