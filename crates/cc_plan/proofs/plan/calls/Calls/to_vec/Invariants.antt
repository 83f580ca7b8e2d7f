use Rattle.std.specs.Prelude.{◌-◌, length}
use Rattle.cc_plan.specs.Calls.{calls_in}
use Rattle.cc_plan.proofs.Copied.{AreFirst}
use Rattle.cc_plan.proofs.plan.calls.Calls.to_vec.Given as goal

abbrev pub invariant-loop-list : goal.invariant-loop-list
invariant-loop-list l = AreFirst l.list.items (calls_in l.fn.self)

abbrev pub decreases-loop-list : goal.decreases-loop-list
decreases-loop-list l = length (calls_in l.fn.self) - length l.list.items
