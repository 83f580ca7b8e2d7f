use Rattle.std.proofs.Common.{rules}
use Rattle.cc_plan.specs.PlanShape.{is_plan_key}
use Rattle.cc_plan.proofs.plan.shape.has_plan_keys.Goals as goal

pub returns : goal.returns
returns c = c.has_only.ensures (is_plan_key c.args.version) (λ x b k. search rules)
