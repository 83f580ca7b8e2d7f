use Rattle.cc_judge.proofs.Sweeping.{LatestTo}
use Rattle.cc_judge.proofs.lists.latest_of.Given as goal

abbrev pub invariant-loop-spell : goal.invariant-loop-spell
invariant-loop-spell l = LatestTo l.spells.items l.latest.items l.best l.spell-index
