use Rattle.std.proofs.Common.{◌≡◌, ℕ, ◌<◌, Some}
use Rattle.std.specs.List.{slice_get}
use Rattle.cc_judge.specs.Names.{Call}
use Rattle.cc_judge.specs.Cuts.{IsShort}
use Rattle.cc_judge.proofs.cutting.are_short.Given as goal

-- the calls so far are short
abbrev pub invariant-loop-call : goal.invariant-loop-call
invariant-loop-call l = (k : ℕ) (c : Call) → k < l.call-index → slice_get l.calls k ≡ Some c → IsShort c
