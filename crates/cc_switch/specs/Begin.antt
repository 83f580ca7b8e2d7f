-- A queue of a row, and how many items the queues before it accepted.
use Rattle.std.specs.Prelude.{ℕ}
use Rattle.cc_steps.specs.Topic.{Topic}

pub record Begin : Type 0 where
  pub queue : Topic
  pub base : ℕ
