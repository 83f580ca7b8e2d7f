use Rattle.std.proofs.Common.{◌≡◌, length}
use Rattle.cc_judge.proofs.Parts.{MarkedTo}
use Rattle.cc_judge.proofs.cutting.marks_of.Given as goal

abbrev pub invariant-loop-tie : goal.invariant-loop-tie
invariant-loop-tie l = (length l.marks.items ≡ l.number) × MarkedTo l.ties l.later l.marks.items l.tie-index
