use Rattle.cc_audit.proofs.InOrder.{Filled}
use Rattle.cc_audit.proofs.places.first_gap.Given as goal

-- the places so far are those below the next one
abbrev pub invariant-loop-place : goal.invariant-loop-place
invariant-loop-place l = Filled l.taken l.place-index l.next
