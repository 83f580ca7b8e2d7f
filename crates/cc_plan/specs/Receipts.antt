-- The content of receipts.
use Rattle.std.specs.Prelude.{ℕ, List, Option}
use Rattle.cc_plan.specs.Names.{SendReceipt, TakeReceipt, Receipts}

-- the receipts of the senders, those of the receivers, and the total, if one is given
pub record ReceiptsValue : Type 0 where
  pub accepted : List SendReceipt
  pub taken : List TakeReceipt
  pub total : Option ℕ

abbrev pub receipts_value : Receipts → ReceiptsValue
receipts_value r = record { accepted = r.accepted.items; taken = r.taken.items; total = r.total }
