pub mod LinkFacts
pub mod Growing
pub mod Passes
pub mod Closed
pub mod Frozen
pub mod Onward
pub mod Ends
pub mod GoingOver
pub mod Standing
mod Ranks
