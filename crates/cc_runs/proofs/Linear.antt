-- The order of the answered calls of every run.
pub mod Part
pub mod Scan
pub mod Full
pub mod Empty
pub mod Replay
pub mod Bounds
pub mod Insert
pub mod Decided
pub mod Orders
pub mod Small
