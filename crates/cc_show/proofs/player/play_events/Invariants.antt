use Rattle.std.proofs.Common.{◌≤◌, length}
use Rattle.cc_plan.specs.Plan.{plan_value}
use Rattle.cc_play.specs.Schedule.{IsBetweenTurns}
use Rattle.cc_play.proofs.Followed.{LeadsOn}
use Rattle.cc_show.specs.Events.{event_limit, Stands}
use Rattle.cc_show.proofs.player.play_events.Given as goal

abbrev pub invariant-loop-pass : goal.invariant-loop-pass
invariant-loop-pass l = record {
  short : length l.events.items ≤ event_limit;
  between : IsBetweenTurns (plan_value l.plan) l.machine l.begun.items;
  leads : LeadsOn (plan_value l.plan) (Stands (plan_value l.plan) l.machine l.begun.items l.events.items) l.pass-index;
}
