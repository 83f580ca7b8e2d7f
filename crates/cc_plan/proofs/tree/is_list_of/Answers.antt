use Rattle.std.proofs.Common.{◌∙◌, refl, false, true, arith}
use Rattle.cc_plan.proofs.Trees.{stops, goes_on, by_elements}
use Rattle.cc_plan.proofs.tree.is_list_of.Goals as goal

pub returns-then-not-passes : goal.returns-then-not-passes
returns-then-not-passes g c = λ test told.
    stops test c.in-Some.list.now c.loop-element.element-index c.element-item.result (omega arith) c.element-item.is
    (told c.element-item.result false (record { shown = _; shows = refl; says = record { met = c.if-not-passes.ensures } }))
    (c.loop-element.invariant test told)
    ∙ by_elements test _ _ c.in-Some.ensures

pub loop-element-preserved : goal.loop-element-preserved
loop-element-preserved g c = λ test told.
    goes_on test c.in-Some.list.now c.loop-element.element-index c.element-item.result (omega arith) c.element-item.is
    (told c.element-item.result true (record { shown = _; shows = refl; says = record { met = c.if-not-passes.ensures } }))
    (c.loop-element.invariant test told)
