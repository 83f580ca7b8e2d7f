use Rattle.cc_judge.proofs.Sweeping.{ShutTo}
use Rattle.cc_judge.proofs.shutting.shut_of.Given as goal

abbrev pub invariant-loop-place : goal.invariant-loop-place
invariant-loop-place l = ShutTo l.calls l.first l.place
