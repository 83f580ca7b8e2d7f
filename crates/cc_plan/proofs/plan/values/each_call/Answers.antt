use Rattle.std.proofs.Common.{◌∙◌, ap, Some, arith}
use Rattle.cc_plan.specs.Calls.{calls_in}
use Rattle.cc_plan.specs.PlanValues.{call_of}
use Rattle.cc_plan.proofs.Each.{gives_none, gives_some, gave_all}
use Rattle.cc_plan.proofs.plan.values.each_call.Goals as goal

pub returns-in_default : goal.returns-in_default
returns-in_default c = gives_none (call_of c.args.version) c.args.list.now c.loop-element.element-index c.element-item.result (calls_in c.loop-element.all) _ (omega arith) c.element-item.is
    (rw c.in_default.is at c.call.ensures.call)
    c.loop-element.invariant

pub loop-element-preserved : goal.loop-element-preserved
loop-element-preserved c = gives_some (call_of c.args.version) c.args.list.now c.loop-element.element-index c.element-item.result (calls_in c.loop-element.all) (calls_in c.push.new.self) c.in-Some.call _ (omega arith) c.element-item.is
    (rw c.in-Some.is at c.call.ensures.call)
    c.in_ok-push.ensures
    c.loop-element.invariant

pub returns : goal.returns
returns c = ap Some c.shrunk.ensures ∙ gave_all (call_of c.args.version) c.args.list.now c.loop-element.element-index (calls_in c.loop-element.all) _ (omega arith) c.loop-element.invariant
