use Rattle.std.proofs.Common.{◌≡◌, length}
use Rattle.cc_plan.specs.Plan.{plan_value}
use Rattle.cc_play.specs.Schedule.{IsBetweenTurns, IsOnItsWay}
use Rattle.cc_play.proofs.player.follow_entry.Given as goal

-- the turns so far
abbrev pub invariant-loop-left : goal.invariant-loop-left
invariant-loop-left l = record {
  rows : length l.begun ≡ length l.fn.begun;
  between : IsBetweenTurns (plan_value l.plan) l.machine l.begun;
  on : IsOnItsWay (plan_value l.plan) l.pass l.row l.fn.machine l.machine l.fn.begun l.begun l.events l.left;
}

abbrev pub decreases-loop-left : goal.decreases-loop-left
decreases-loop-left l = l.left
