pub mod First
pub mod IsNew
pub mod RefusedClaims
