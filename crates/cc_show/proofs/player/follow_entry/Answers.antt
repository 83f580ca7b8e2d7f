use Rattle.std.proofs.Common.{sym, arith}
use Rattle.cc_plan.specs.Plan.{plan_value}
use Rattle.cc_show.proofs.Events.{no_more}
use Rattle.cc_show.proofs.player.follow_entry.Goals as goal

pub returns-in-Idle-clause-followed : goal.returns-in-Idle-clause-followed
returns-in-Idle-clause-followed c =
    no_more (plan_value c.args.plan.now) c.args.pass c.in-Some.row (sym c.in-Some.ensures) _ _ _ _ _ _ _ _ c.loop-done._done c.args.count (omega (arith, c.loop-done-test.true)) c.loop-done.invariant.shown (rw c.in-Idle.is at c.in_ok-kind.ensures.turned)
