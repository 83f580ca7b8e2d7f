use Rattle.std.proofs.Common.{arith}
use Rattle.cc_judge.proofs.Sweeping.{stays_until, reach_taken, reach_none}
use Rattle.cc_judge.proofs.sweeps.reach_of.Goals as goal
use Rattle.cc_judge.proofs.sweeps.reach_of.Goals.{in_default-via-in-Some+else-time-spell, in_default-via-in_default}

pub returns-in-Some-clause-reaches : goal.returns-in-Some-clause-reaches
returns-in-Some-clause-reaches c = λ rules calls l. stays_until rules calls c.args.time c.in-Some.spell l.written (c.in-Some.ensures rules calls l)

pub returns-in_default-clause-reaches : goal.returns-in_default-clause-reaches
returns-in_default-clause-reaches c = λ rules calls l.
    elim c.in_default.branch [
      | in_default-via-in-Some+else-time-spell w ↦ reach_taken rules calls c.args.time w.in-Some.spell c.lefts_reach.result (w.in-Some.ensures rules calls l) (omega (arith, w.if-time-spell.false)) (c.lefts_reach.ensures.reaches rules calls l)
      | in_default-via-in_default w ↦ reach_none rules calls c.args.time c.lefts_reach.result (w.in_default.ensures rules calls l) (c.lefts_reach.ensures.reaches rules calls l)
    ]
