use Rattle.std.proofs.Common.{ℕ, ◌<◌}
use Rattle.cc_judge.specs.Faults.{WasOpen, BeganAfter}
use Rattle.cc_judge.proofs.closing.open_after.Given as goal

-- no send so far found the queue open and began later
abbrev pub invariant-loop-send : goal.invariant-loop-send
invariant-loop-send l = (k : ℕ) → k < l.send → WasOpen l.calls k → BeganAfter l.calls k l.time → ⊥
