use Rattle.std.specs.Prelude.{◌≡◌, ◌++◌}
use Rattle.std.specs.List.{AllByRecursion}
use Rattle.std.specs.Vec.Iter.{into_iter_items}
use Rattle.cc_plan.specs.Calls.{calls_in}
use Rattle.cc_plan.specs.PlanLaws.{IsOfSender}
use Rattle.cc_plan.proofs.plan.calls.Calls.of.Given as goal

abbrev pub invariant-loop-call : goal.invariant-loop-call
invariant-loop-call l = (calls_in l.own ++ into_iter_items l.call-iterator ≡ l.fn.calls.items) × AllByRecursion IsOfSender (into_iter_items l.call-iterator)
