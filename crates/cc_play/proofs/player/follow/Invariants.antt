use Rattle.cc_plan.specs.Plan.{plan_value}
use Rattle.cc_play.specs.Schedule.{IsAt, IsBetweenTurns}
use Rattle.cc_play.proofs.Followed.{LeadsOn}
use Rattle.cc_play.proofs.player.follow.Given as goal

abbrev pub invariant-loop-pass : goal.invariant-loop-pass
invariant-loop-pass l = record {
  between : IsBetweenTurns (plan_value l.plan) l.machine l.begun.items;
  leads : LeadsOn (plan_value l.plan) (IsAt (plan_value l.plan) l.machine l.begun.items) l.pass-index;
}
