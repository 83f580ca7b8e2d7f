use Rattle.std.proofs.Common.{ℕ, ◌<◌}
use Rattle.cc_judge.specs.Names.{Act}
use Rattle.cc_judge.specs.Faults.{Did, BeganAfter}
use Rattle.cc_judge.proofs.closing.close_by.Given as goal

-- each close so far began later
abbrev pub invariant-loop-place : goal.invariant-loop-place
invariant-loop-place l = (k : ℕ) → k < l.place → Did l.calls k Act.Close → BeganAfter l.calls k l.time
