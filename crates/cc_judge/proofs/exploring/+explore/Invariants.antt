use Rattle.std.proofs.Common.{◌+◌, ◌*◌, length}
use Rattle.cc_judge.proofs.Trials.{TriedTo}
use Rattle.cc_judge.proofs.exploring.+explore.Given as goal

abbrev pub decreases-by_cut : goal.decreases-by_cut
decreases-by_cut l = 3 * length l.rules.now.ties.items

abbrev pub decreases-by_cuts : goal.decreases-by_cuts
decreases-by_cuts l = 3 * length l.rules.now.ties.items + 1

abbrev pub decreases-explore : goal.decreases-explore
decreases-explore l = 3 * length l.rules.now.ties.items + 2

abbrev pub invariant-by_cuts-loop-place : goal.invariant-by_cuts-loop-place
invariant-by_cuts-loop-place l = TriedTo l.rules l.calls l.tie l.place l.initial.left l.left
