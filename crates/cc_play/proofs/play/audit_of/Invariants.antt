use Rattle.std.proofs.Common.{ℕ, ◌<◌}
use Rattle.cc_model.specs.HistoryRoom.{lists}
use Rattle.cc_play.specs.Names.{Verdict}
use Rattle.cc_play.specs.Play.{IsGroupVerdict}
use Rattle.cc_play.proofs.play.audit_of.Given as goal

-- no group so far has a fault
abbrev pub invariant-loop-group : goal.invariant-loop-group
invariant-loop-group l = (g : ℕ) → g < l.group → IsGroupVerdict (lists l.history) g Verdict.Clean
