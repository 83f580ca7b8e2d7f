use Rattle.cc_judge.specs.Names.{Rules}
use Rattle.cc_judge.specs.Faultless.{IsWritten}
use Rattle.cc_judge.specs.Sweeps.{IsShutAt}
use Rattle.cc_judge.proofs.Sweeping.{SpellsTo}
use Rattle.cc_judge.proofs.lists.spells_of.Given as goal

abbrev pub invariant-loop-send : goal.invariant-loop-send
invariant-loop-send l = (rules : Rules) → IsWritten l.calls → IsShutAt rules l.calls l.shut → SpellsTo rules l.calls l.list.items l.send
