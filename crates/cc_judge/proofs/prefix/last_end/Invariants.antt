use Rattle.std.proofs.Common.{◌≡◌, ℕ, ◌<◌, ◌≤◌, Some}
use Rattle.std.specs.List.{slice_get}
use Rattle.cc_judge.specs.Names.{Call}
use Rattle.cc_judge.proofs.prefix.last_end.Given as goal

-- the calls so far had ended by this time
abbrev pub invariant-loop-call : goal.invariant-loop-call
invariant-loop-call l = (k end : ℕ) (c : Call) → k < l.call-index → slice_get l.calls k ≡ Some c → c.end ≡ Some end → end ≤ l.last
