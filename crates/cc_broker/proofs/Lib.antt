pub mod Lookup
pub mod Built
pub mod Doubles
pub mod NextPasses
pub mod RefusedClaims
