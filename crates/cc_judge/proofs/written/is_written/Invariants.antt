use Rattle.std.proofs.Common.{◌≡◌, ℕ, ◌<◌, Some}
use Rattle.std.specs.List.{slice_get}
use Rattle.cc_judge.specs.Names.{Call}
use Rattle.cc_judge.specs.Sweeps.{IsWrittenCall}
use Rattle.cc_judge.proofs.written.is_written.Given as goal

-- the calls so far are well-formed
abbrev pub invariant-loop-call : goal.invariant-loop-call
invariant-loop-call l = (k : ℕ) (c : Call) → k < l.call-index → slice_get l.calls k ≡ Some c → IsWrittenCall c
