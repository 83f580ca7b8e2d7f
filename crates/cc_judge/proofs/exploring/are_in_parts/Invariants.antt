use Rattle.std.proofs.Common.{◌≡◌, ℕ, ◌<◌, Some}
use Rattle.std.specs.List.{slice_get}
use Rattle.cc_judge.specs.Names.{Call}
use Rattle.cc_judge.specs.Splits.{IsInParts}
use Rattle.cc_judge.proofs.exploring.are_in_parts.Given as goal

abbrev pub invariant-loop-place : goal.invariant-loop-place
invariant-loop-place l = (k : ℕ) (c d : Call) → k < l.place → slice_get l.calls k ≡ Some c → slice_get l.cut k ≡ Some d → IsInParts l.first l.parts c d
