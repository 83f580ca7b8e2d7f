pub mod Names
pub mod Device
pub mod DeviceParts
pub mod Written
pub mod Input
pub mod FaultLine
pub mod Refused
