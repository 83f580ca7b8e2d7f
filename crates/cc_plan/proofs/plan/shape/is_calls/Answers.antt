use Rattle.std.proofs.Common.{rules}
use Rattle.cc_plan.specs.PlanShape.{is_call}
use Rattle.cc_plan.proofs.plan.shape.is_calls.Goals as goal

pub returns : goal.returns
returns c = c.is_list_of.ensures (is_call c.args.version) (λ x b k. search rules)
