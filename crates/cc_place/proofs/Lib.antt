pub mod Positions
pub mod RefusedClaims
