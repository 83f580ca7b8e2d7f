use Rattle.std.proofs.Common.{◌∙◌, sym}
use Rattle.cc_play.proofs.Turns.{begun_turned}
use Rattle.cc_play.proofs.Between.{idle_between, begun_between, may_begin}
use Rattle.cc_plan.specs.Plan.{plan_value}
use Rattle.cc_play.proofs.player.begin_turn.Goals as goal

pub begin-requires : goal.begin-requires
begin-requires c =
    may_begin (plan_value c.args.plan.now) c.args.pass c.args.row c.args.machine.now c.args.begun.now c.in-Some.call c.requires.can.valid c.requires.can.pass c.requires.can.between
    c.requires.idle (sym c.next_call.ensures.call ∙ c.in-Some.is)

pub returns-clause-turned : goal.returns-clause-turned
returns-clause-turned c =
    begun_turned (plan_value c.args.plan.now) c.args.pass c.args.row c.requires.can.pass _ _ _ _ _ c.in-Some.call _ _ c.requires.can.row (sym c.next_call.ensures.call ∙ c.in-Some.is)
    (idle_between (plan_value c.args.plan.now) c.args.pass c.args.row c.requires.can.pass _ _ c.requires.can.between c.requires.idle)
    c.in_ok-begin.ensures.body
    (may_begin (plan_value c.args.plan.now) c.args.pass c.args.row c.args.machine.now c.args.begun.now c.in-Some.call c.requires.can.valid c.requires.can.pass c.requires.can.between c.requires.idle (sym c.next_call.ensures.call ∙ c.in-Some.is))
    c.in_ok-begin.ensures.begun
    c.event.ensures.event c.event.ensures.state c.answer.ensures.answer c.answer.ensures.state

pub returns-clause-between : goal.returns-clause-between
returns-clause-between c =
    begun_between (plan_value c.args.plan.now) c.args.pass c.args.row c.requires.can.pass _ _ _ _ _ c.in-Some.call _ _ _ c.requires.can.between c.requires.can.row
    c.in_ok-begin.ensures.begun c.event.ensures.state c.answer.ensures.answer c.answer.ensures.state
