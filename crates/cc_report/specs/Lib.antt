pub mod Names
pub mod Report
