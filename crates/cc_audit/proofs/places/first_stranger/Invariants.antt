use Rattle.cc_audit.proofs.InOrder.{AllIn}
use Rattle.cc_audit.proofs.places.first_stranger.Given as goal

-- the places so far were sent
abbrev pub invariant-loop-place : goal.invariant-loop-place
invariant-loop-place l = AllIn l.sent l.taken l.place-index
