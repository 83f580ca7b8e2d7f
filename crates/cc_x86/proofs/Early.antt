-- The passes of the queue keep the finer discipline, if all their stores are plain but the marks of sends.
pub mod Phases
pub mod Steps
pub mod Words
pub mod Known
pub mod Turns
pub mod Others
pub mod Posts
pub mod Keeps
pub mod Settles
pub mod Law
