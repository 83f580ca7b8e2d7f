-- Progress: what is ahead of a call, and that its passes do it.
pub mod Left
pub mod Shares
pub mod Among
pub mod Moves
pub mod Runs
pub mod Served
pub mod Combiner
pub mod Turns
pub mod Nearer
pub mod Falls
pub mod Laws
pub mod Rounds
pub mod Ends
pub mod Stopped
