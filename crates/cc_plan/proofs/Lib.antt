pub mod Trees
pub mod Each
pub mod CompactCalls
pub mod Digits
pub mod Valid
pub mod Copied
pub mod RefusedClaims
