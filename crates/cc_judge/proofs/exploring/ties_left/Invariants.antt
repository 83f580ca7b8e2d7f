use Rattle.cc_judge.proofs.Trials.{LeftTo}
use Rattle.cc_judge.proofs.exploring.ties_left.Given as goal

abbrev pub invariant-loop-tie : goal.invariant-loop-tie
invariant-loop-tie l = LeftTo l.ties l.cut l.rest.items l.tie-index
