pub mod Names
pub mod Least
pub mod Verdict
pub mod Receipts
pub mod Refused
