use Rattle.cc_judge.specs.Cuts.{CutCall}
use Rattle.cc_judge.proofs.Parts.{EachTo}
use Rattle.cc_judge.proofs.cutting.cut_calls.Given as goal

abbrev pub invariant-loop-place : goal.invariant-loop-place
invariant-loop-place l = EachTo (CutCall l.ties) l.calls l.cut.items l.place
