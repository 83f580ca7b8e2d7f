-- One combining chain, in the abstract: its invariant, and that each step keeps it.
pub mod Chain
pub mod Invariant
pub mod Apart
pub mod Step
pub mod CallSteps
pub mod CombinerSteps
pub mod Stay
