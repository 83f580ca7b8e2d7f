use Rattle.std.proofs.Common.{◌-◌, Bool, subst, arith}
use Rattle.std.specs.Bool.{OnTrue}
use Rattle.cc_machine.specs.Machine.{index_of, StandsStill}
use Rattle.cc_plan.specs.Plan.{plan_value}
use Rattle.cc_play.proofs.Between.{gone_between}
use Rattle.cc_play.proofs.Turns.{gone_turned, all_done, waits_on, turned_on, ended_on}
use Rattle.cc_play.proofs.player.go_on.Goals.{then-done-left-via-then-done-left, then-done-left-via-else-done-left+then-is_waiting}
use Rattle.cc_play.proofs.player.go_on.Goals as goal

pub returns-then-done-left-clause-on : goal.returns-then-done-left-clause-on
returns-then-done-left-clause-on c =
    let done = gone_turned (plan_value c.args.plan.now) c.args.pass c.args.row c.requires.can.pass c.args.machine.now c.events-done.new.self c.answer.new.self c.args.begun.now c.events-done.result c.answer.result (c.requires.can.between.taken c.args.row) c.events-done.ensures.state c.answer.ensures.answer c.answer.ensures.state in
    elim c.then-done-left.branch [
      | then-done-left-via-then-done-left w ↦ all_done (plan_value c.args.plan.now) c.args.pass c.args.row c.requires.can.pass _ _ _ _ _ (omega (arith, w.if-done-left.true)) done
      | then-done-left-via-else-done-left+then-is_waiting w ↦ waits_on (plan_value c.args.plan.now) c.args.pass c.args.row c.requires.can.pass _ _ _ _ _ c.events-done.ensures.most done
          (subst (λ (b : Bool). OnTrue b (StandsStill c.answer.new.self (index_of c.answer.new.self.setting c.args.pass))) w.if-is_waiting.true w.is_waiting.ensures.still)
    ]

pub returns-then-done-left-clause-between : goal.returns-then-done-left-clause-between
returns-then-done-left-clause-between c = gone_between (plan_value c.args.plan.now) c.args.pass c.args.row c.requires.can.pass c.args.machine.now c.events-done.new.self c.answer.new.self c.args.begun.now c.events-done.result c.answer.result c.requires.can.between c.events-done.ensures.state c.answer.ensures.answer c.answer.ensures.state

pub begin_turn-requires-clause-can : goal.begin_turn-requires-clause-can
begin_turn-requires-clause-can c = record {
  valid = c.requires.can.valid;
  pass = c.requires.can.pass;
  row = c.requires.can.row;
  between = gone_between (plan_value c.args.plan.now) c.args.pass c.args.row c.requires.can.pass c.args.machine.now c.events-done.new.self c.answer.new.self c.args.begun.now c.events-done.result c.answer.result c.requires.can.between c.events-done.ensures.state c.answer.ensures.answer c.answer.ensures.state;
}

pub returns-in-Did-clause-on : goal.returns-in-Did-clause-on
returns-in-Did-clause-on c =
    turned_on (plan_value c.args.plan.now) c.args.pass c.args.row c.requires.can.pass _ _ _ _ _ c.events-done.result c.args.left (c.args.left - c.events-done.result - 1) (omega (arith, c.events-done.ensures.most, c.if-done-left.false))
    (gone_turned (plan_value c.args.plan.now) c.args.pass c.args.row c.requires.can.pass c.args.machine.now c.events-done.new.self c.answer.new.self c.args.begun.now c.events-done.result c.answer.result (c.requires.can.between.taken c.args.row) c.events-done.ensures.state c.answer.ensures.answer c.answer.ensures.state) c.in_ok-begin_turn.ensures.turned

pub returns-in-Idle-clause-on : goal.returns-in-Idle-clause-on
returns-in-Idle-clause-on c =
    ended_on (plan_value c.args.plan.now) c.args.pass c.args.row c.requires.can.pass _ _ _ _ _ c.events-done.result c.args.left (omega (arith, c.events-done.ensures.most, c.if-done-left.false))
    (gone_turned (plan_value c.args.plan.now) c.args.pass c.args.row c.requires.can.pass c.args.machine.now c.events-done.new.self c.answer.new.self c.args.begun.now c.events-done.result c.answer.result (c.requires.can.between.taken c.args.row) c.events-done.ensures.state c.answer.ensures.answer c.answer.ensures.state) c.in_ok-begin_turn.ensures.turned c.in-Idle.is
