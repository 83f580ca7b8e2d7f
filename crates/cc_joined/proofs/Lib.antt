pub mod Joined
pub mod Bounded
pub mod Narrow
