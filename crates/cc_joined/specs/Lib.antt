pub mod Names
pub mod Joined
pub mod Bounded
pub mod Narrow
