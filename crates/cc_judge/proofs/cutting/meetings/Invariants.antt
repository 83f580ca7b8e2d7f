use Rattle.cc_judge.proofs.Listing.{ListTo}
use Rattle.cc_judge.proofs.Parts.{MeetsAt}
use Rattle.cc_judge.proofs.cutting.meetings.Given as goal

abbrev pub invariant-loop-place : goal.invariant-loop-place
invariant-loop-place l = ListTo (MeetsAt l.calls l.ties) l.list.items l.place
