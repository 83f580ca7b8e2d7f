-- The list between the chains, in the abstract: its invariant, and what follows from it.
pub mod Queue
pub mod Invariant
pub mod Scan
pub mod Count
pub mod Decide
pub mod Sides
pub mod Busy
pub mod Limits
pub mod Open
pub mod Grow
