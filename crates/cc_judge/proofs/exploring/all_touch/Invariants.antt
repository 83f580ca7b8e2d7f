use Rattle.std.proofs.Common.{◌≡◌, ℕ, ◌<◌, Some}
use Rattle.std.specs.List.{slice_get}
use Rattle.cc_judge.specs.Names.{Tie}
use Rattle.cc_judge.specs.Splits.{DoTouch}
use Rattle.cc_judge.proofs.exploring.all_touch.Given as goal

abbrev pub invariant-loop-tie : goal.invariant-loop-tie
invariant-loop-tie l = (k : ℕ) (tie : Tie) → k < l.tie-index → slice_get l.ties k ≡ Some tie → DoTouch l.calls tie
