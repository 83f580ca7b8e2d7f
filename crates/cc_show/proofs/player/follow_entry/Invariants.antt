use Rattle.std.proofs.Common.{◌≡◌, length}
use Rattle.cc_plan.specs.Plan.{plan_value}
use Rattle.cc_play.specs.Schedule.{IsBetweenTurns}
use Rattle.cc_show.proofs.Events.{HasShown}
use Rattle.cc_show.proofs.player.follow_entry.Given as goal

-- the turns so far
abbrev pub invariant-loop-done : goal.invariant-loop-done
invariant-loop-done l = record {
  rows : length l.begun ≡ length l.fn.begun;
  between : IsBetweenTurns (plan_value l.plan) l.machine l.begun;
  shown : HasShown (plan_value l.plan) l.pass l.row l._done l.fn.machine l.machine l.fn.begun l.begun l.fn.events.items l.events.items;
}
