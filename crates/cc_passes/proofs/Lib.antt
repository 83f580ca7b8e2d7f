pub mod Filling
pub mod HandleBoxValues
pub mod Values
pub mod Quiet
pub mod AbandonedValues
pub mod RefusedClaims
