use Rattle.std.proofs.Common.{◌≡◌, ℕ, ◌<◌, slice_get}
use Rattle.cc_broker.specs.Topics.{asked_names}
use Rattle.cc_broker.proofs.names.is_double.Given as goal

abbrev pub invariant-loop-before : goal.invariant-loop-before
invariant-loop-before l = (other : ℕ) → other < l.before → slice_get (asked_names l.fn.topics) other ≡ slice_get (asked_names l.fn.topics) l.fn.place → ⊥
