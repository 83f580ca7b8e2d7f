pub mod Writing
pub mod RefusedClaims
