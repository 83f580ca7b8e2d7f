use Rattle.std.proofs.Common.{rules}
use Rattle.cc_plan.specs.ReceiptsShape.{is_receipts_key}
use Rattle.cc_plan.proofs.receipts.shape.has_receipts_keys.Goals as goal

pub returns : goal.returns
returns c = c.has_only.ensures is_receipts_key (λ x b k. search rules)
