use Rattle.std.proofs.Common.{◌≡◌, ℕ, ◌<◌, Some}
use Rattle.std.specs.List.{slice_get}
use Rattle.cc_judge.specs.Names.{Tie}
use Rattle.cc_judge.specs.Order.{EndsBefore}
use Rattle.cc_judge.proofs.exploring.are_timed.Given as goal

abbrev pub invariant-loop-tie : goal.invariant-loop-tie
invariant-loop-tie l = (k : ℕ) (tie : Tie) → k < l.tie-index → slice_get l.ties k ≡ Some tie → EndsBefore l.cut tie.earlier tie.later
