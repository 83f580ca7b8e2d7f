pub mod HandedOn
pub mod Opening
pub mod Refused
