use Rattle.std.proofs.Common.{List}
use Rattle.cc_judge.specs.Names.{Call, Rules}
use Rattle.cc_judge.specs.Sweeps.{AreLists}
use Rattle.cc_judge.specs.Verdict.{AreUntaken}
use Rattle.cc_judge.proofs.overtaking.stay_of_lefts.Given as goal

-- no call took the items of the sends that are named so far
abbrev pub invariant-loop-at : goal.invariant-loop-at
invariant-loop-at l = (rules : Rules) (calls : List Call) → AreLists rules calls l.lists → AreUntaken calls l.sends.items
