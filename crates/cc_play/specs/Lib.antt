pub mod Names
pub mod Schedule
pub mod Play
pub mod Outcome
pub mod Refused
