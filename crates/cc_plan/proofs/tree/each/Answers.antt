use Rattle.std.proofs.Common.{◌∙◌, refl, ap, length, Some, None, arith}
use Rattle.std.proofs.lemmas.List.{length_push}
use Rattle.cc_plan.proofs.Each.{gives_none, gives_some, gave_all}
use Rattle.cc_plan.proofs.tree.each.Goals as goal

pub returns-in_default : goal.returns-in_default
returns-in_default g c = record {
  value = λ f told. gives_none f c.args.list.now c.loop-element.element-index c.element-item.result c.loop-element.all.items _ (omega arith) c.element-item.is
      (told c.element-item.result None (record { shown = _; shows = refl; says = record { met = c.in_default.ensures } }))
      (c.loop-element.invariant.gives f told);
  count = tt;
}

pub loop-element-preserved : goal.loop-element-preserved
loop-element-preserved g c = record {
  gives = λ f told. gives_some f c.args.list.now c.loop-element.element-index c.element-item.result c.loop-element.all.items c.push.new.self.items c.in-Some.x _ (omega arith) c.element-item.is
      (told c.element-item.result (Some c.in-Some.x) (record { shown = _; shows = refl; says = record { met = c.in-Some.ensures } }))
      c.in_ok-push.ensures.items
      (c.loop-element.invariant.gives f told);
  count = ap length c.in_ok-push.ensures.items ∙ length_push c.loop-element.all.items c.in-Some.x ∙ omega arith;
}

pub returns : goal.returns
returns g c = record {
  value = λ f told. gave_all f c.args.list.now c.loop-element.element-index c.loop-element.all.items _ (omega arith) (c.loop-element.invariant.gives f told);
  count = omega arith;
}
