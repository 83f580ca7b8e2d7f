pub mod Room
pub mod Texts
pub mod Seen
pub mod Events
pub mod Pages
