use Rattle.cc_judge.specs.Splits.{SplitCall}
use Rattle.cc_judge.proofs.Parts.{EachTo}
use Rattle.cc_judge.proofs.exploring.split.Given as goal

abbrev pub invariant-loop-place : goal.invariant-loop-place
invariant-loop-place l = EachTo (SplitCall l.tie l.time) l.calls l.cut.items l.place
