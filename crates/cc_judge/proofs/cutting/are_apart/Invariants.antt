use Rattle.cc_judge.proofs.Parts.{ApartTo}
use Rattle.cc_judge.proofs.cutting.are_apart.Given as goal

abbrev pub invariant-loop-place : goal.invariant-loop-place
invariant-loop-place l = ApartTo l.list.items l.place
