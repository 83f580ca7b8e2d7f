use Rattle.std.proofs.Common.{rules, ◌∙◌}
use Rattle.cc_drive.proofs.Counted.{read_on, was_answered}
use Rattle.cc_drive.proofs.calls.await_answer.Goals as goal

pub returns-in-Done-clause-answered : goal.returns-in-Done-clause-answered
returns-in-Done-clause-answered g c = was_answered _ _ _ _ c.in-Done.served _ _ c.loop-turns.invariant.0 (search rules) c.in-Done.ensures

pub loop-turns-preserved : goal.loop-turns-preserved
loop-turns-preserved g c =
    let e = c.in-Waiting.ensures in let was = c.loop-turns.invariant in
    (read_on _ _ _ _ _ was.0 (search rules) e, (e.stands.same.0 ∙ was.1.0, e.stands.same.1 ∙ was.1.1))
