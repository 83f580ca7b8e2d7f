use Rattle.std.proofs.Common.{◌≡◌, ℕ, ◌<◌, Some}
use Rattle.std.specs.List.{slice_get}
use Rattle.cc_judge.specs.Names.{Call}
use Rattle.cc_judge.specs.Splits.{HasRoom}
use Rattle.cc_judge.proofs.exploring.have_room.Given as goal

abbrev pub invariant-loop-call : goal.invariant-loop-call
invariant-loop-call l = (k : ℕ) (c : Call) → k < l.call-index → slice_get l.calls k ≡ Some c → HasRoom l.more c
