use Rattle.cc_audit.proofs.InOrder.{AllBelow}
use Rattle.cc_audit.proofs.places.first_from.Given as goal

-- the places so far are below the bound
abbrev pub invariant-loop-place : goal.invariant-loop-place
invariant-loop-place l = AllBelow l.places l.bound l.place-index
