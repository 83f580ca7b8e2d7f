use Rattle.std.proofs.Common.{rules}
use Rattle.cc_plan.specs.PlanShape.{is_entry}
use Rattle.cc_plan.proofs.plan.shape.is_schedule.Goals as goal

pub returns : goal.returns
returns c = c.is_list_of.ensures is_entry (λ x b k. search rules)
