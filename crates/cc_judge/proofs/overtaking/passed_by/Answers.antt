use Rattle.std.proofs.Common.{arith}
use Rattle.cc_judge.proofs.Sweeping.{taken_by_then, none_taken}
use Rattle.cc_judge.proofs.overtaking.passed_by.Goals as goal
use Rattle.cc_judge.proofs.overtaking.passed_by.Goals.{in_default-via-in-Some+else-end-spell, in_default-via-in_default}

pub returns-in_default : goal.returns-in_default
returns-in_default c = λ rules calls l.
    let enough = c.if-are_enough.ensures rules calls l in
    elim c.in_default.branch [
      | in_default-via-in-Some+else-end-spell w ↦ (taken_by_then rules calls c.args.begin c.args.end w.in-Some.spell (w.in-Some.ensures rules calls l) (omega (arith, w.if-end-spell.false)), enough)
      | in_default-via-in_default w ↦ (none_taken rules calls c.args.begin c.args.end (w.in_default.ensures rules calls l), enough)
    ]

pub returns-in-Some : goal.returns-in-Some
returns-in-Some c = λ rules calls l. let last = c.in-Some.ensures rules calls l in c.last_passed.ensures rules calls l last.spell last.before c.if-end-spell.true
