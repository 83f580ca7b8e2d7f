pub mod Clap
pub mod Ranges
pub mod RefusedClaims
pub mod Words
