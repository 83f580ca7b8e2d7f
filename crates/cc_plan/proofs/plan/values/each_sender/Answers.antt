use Rattle.std.proofs.Common.{◌∙◌, ap, length, map, arith}
use Rattle.std.proofs.lemmas.List.{length_push, map-append}
use Rattle.cc_plan.specs.Calls.{calls_in}
use Rattle.cc_plan.specs.PlanValues.{calls_of}
use Rattle.cc_plan.proofs.Each.{gives_none, gives_some, gave_all}
use Rattle.cc_plan.proofs.plan.values.each_sender.Goals as goal

pub returns-in_default-clause-value : goal.returns-in_default-clause-value
returns-in_default-clause-value c = gives_none (calls_of c.args.version) c.args.list.now c.loop-element.element-index c.element-item.result (map calls_in c.loop-element.all.items) _ (omega arith) c.element-item.is
    (rw c.in_default.is at c.in_ok-calls.ensures)
    c.loop-element.invariant.gives

pub loop-element-preserved : goal.loop-element-preserved
loop-element-preserved c = record {
  gives = gives_some (calls_of c.args.version) c.args.list.now c.loop-element.element-index c.element-item.result (map calls_in c.loop-element.all.items) (map calls_in c.push.new.self.items) (calls_in c.in-Some.calls) _ (omega arith) c.element-item.is
      (rw c.in-Some.is at c.in_ok-calls.ensures)
      (ap (map calls_in) c.in_ok-push.ensures.items ∙ map-append calls_in c.loop-element.all.items _)
      c.loop-element.invariant.gives;
  count = ap length c.in_ok-push.ensures.items ∙ length_push c.loop-element.all.items c.in-Some.calls ∙ omega arith;
}

pub returns : goal.returns
returns c = record {
  value = gave_all (calls_of c.args.version) c.args.list.now c.loop-element.element-index (map calls_in c.loop-element.all.items) _ (omega arith) c.loop-element.invariant.gives;
  count = omega arith;
}
