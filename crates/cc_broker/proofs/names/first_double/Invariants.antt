use Rattle.std.proofs.Common.{ℕ, ◌<◌}
use Rattle.cc_broker.specs.Names.{IsDouble}
use Rattle.cc_broker.specs.Topics.{asked_names}
use Rattle.cc_broker.proofs.names.first_double.Given as goal

abbrev pub invariant-loop-place : goal.invariant-loop-place
invariant-loop-place l = (other : ℕ) → other < l.place → IsDouble (asked_names l.fn.topics) other → ⊥
