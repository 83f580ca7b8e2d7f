use Rattle.std.proofs.Common.{List, ◌<◌}
use Rattle.cc_judge.specs.Names.{Call, Rules}
use Rattle.cc_judge.specs.Sweeps.{AreLists, IsSpell}
use Rattle.cc_judge.proofs.Judging.{PassedTo}
use Rattle.cc_judge.proofs.overtaking.last_passed.Given as goal

abbrev pub invariant-loop-spell : goal.invariant-loop-spell
invariant-loop-spell l = (rules : Rules) (calls : List Call) → AreLists rules calls l.lists → IsSpell rules calls l.passed → l.passed.from < l.begin → l.end < l.passed.until → PassedTo rules calls l.lists.spells.items l.begin l.end l.spell-index l.last
