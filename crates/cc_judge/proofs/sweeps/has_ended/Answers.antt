use Rattle.std.proofs.Common.{arith}
use Rattle.cc_judge.proofs.Sweeping.{ended_inside, ended_taken, ended_none}
use Rattle.cc_judge.proofs.sweeps.has_ended.Goals as goal
use Rattle.cc_judge.proofs.sweeps.has_ended.Goals.{in_default-via-in-Some+else-end-spell, in_default-via-in_default}

pub returns-in-Some : goal.returns-in-Some
returns-in-Some c = λ rules calls l. ended_inside rules calls c.args.lists.now c.args.end c.in-Some.spell l (c.in-Some.ensures rules calls l) c.if-end-spell.true

pub returns-in_default : goal.returns-in_default
returns-in_default c = λ rules calls l.
    elim c.in_default.branch [
      | in_default-via-in-Some+else-end-spell w ↦ ended_taken rules calls c.args.end w.in-Some.spell _ (w.in-Some.ensures rules calls l) (omega (arith, w.if-end-spell.false)) (c.are_enough_upto.ensures rules calls l)
      | in_default-via-in_default w ↦ ended_none rules calls c.args.end _ (w.in_default.ensures rules calls l) (c.are_enough_upto.ensures rules calls l)
    ]
