use Rattle.std.proofs.Common.{rules}
use Rattle.cc_plan.specs.ReceiptsShape.{is_row}
use Rattle.cc_plan.proofs.receipts.shape.are_rows.Goals as goal

pub returns : goal.returns
returns c = c.is_list_of.ensures (is_row c.args.version c.args.numbers) (λ x b k. search rules)
