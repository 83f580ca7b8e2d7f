pub mod Names
pub mod Why
pub mod Position
pub mod Refused
