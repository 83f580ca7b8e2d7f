pub mod Program
pub mod Number
pub mod Line
pub mod Refusal
pub mod Refused
