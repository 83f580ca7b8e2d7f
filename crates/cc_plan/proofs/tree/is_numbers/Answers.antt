use Rattle.std.proofs.Common.{rules}
use Rattle.cc_plan.specs.Json.{is_number}
use Rattle.cc_plan.proofs.tree.is_numbers.Goals as goal

pub returns : goal.returns
returns c = c.is_list_of.ensures is_number (λ x b k. search rules)
