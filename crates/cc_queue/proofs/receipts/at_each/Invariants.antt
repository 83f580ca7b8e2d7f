use Rattle.std.proofs.Common.{ℕ, ◌<◌, get_or}
use Rattle.std.specs.Fn.{FnReturnsAt}
use Rattle.cc_queue.proofs.receipts.at_each.Given as goal

abbrev pub invariant-loop-pass : goal.invariant-loop-pass
invariant-loop-pass g l = (k : ℕ) (d : _) → k < l.pass-index → FnReturnsAt g.F.Fn l.call (get_or l.passes k d) tt
