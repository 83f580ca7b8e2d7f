pub mod Hard
pub mod Judged
pub mod RefusedClaims
