pub mod Names
pub mod Topics
pub mod Opened
pub mod Refused
