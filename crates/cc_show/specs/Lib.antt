pub mod Names
pub mod Events
pub mod Page
pub mod Trace
pub mod Show
