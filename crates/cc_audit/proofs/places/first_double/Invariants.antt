use Rattle.cc_audit.proofs.InOrder.{Rises}
use Rattle.cc_audit.proofs.places.first_double.Given as goal

-- the places so far rise
abbrev pub invariant-loop-i : goal.invariant-loop-i
invariant-loop-i l = Rises l.places l.i
