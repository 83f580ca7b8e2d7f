use Rattle.cc_judge.specs.Names.{Rules}
use Rattle.cc_judge.specs.Sweeps.{AreLists}
use Rattle.cc_judge.specs.Verdict.{AreStays}
use Rattle.cc_judge.proofs.nones.stays_of.Given as goal

-- the stays so far are of the log
abbrev pub invariant-loop : goal.invariant-loop
invariant-loop l = (rules : Rules) → AreLists rules l.calls l.lists → AreStays l.calls l.stays.items
