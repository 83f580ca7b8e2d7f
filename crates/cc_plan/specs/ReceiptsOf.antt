-- The receipts of an input, or why there are none.
use Rattle.std.specs.Prelude.{ℕ, List, codes, if◌then◌else◌, Result, Ok, Err}
use Rattle.serde_json.specs.Data.{Data}
use Rattle.cc_plan.specs.Refusal.{◌>>=◌, Refusal, wrong_shape, or_range, value_at, tree_of}
use Rattle.cc_plan.specs.Receipts.{ReceiptsValue}
use Rattle.cc_plan.specs.ReceiptsShape.{has_receipts_shape}
use Rattle.cc_plan.specs.ReceiptsValues.{total_of, accepted_of, taken_of}
use Rattle.cc_plan.specs.Version.{version_of}

-- the values in their ranges; of several out of range the first in this order is reported
unfoldable pub receipts_of_values : Data → Result ReceiptsValue Refusal
receipts_of_values d = do
  version ← or_range (codes "version") (version_of d)
  total ← or_range (codes "total") (total_of d)
  accepted ← value_at (accepted_of version) (codes "accepted") d
  taken ← value_at (taken_of version) (codes "taken") d
  Ok (record { accepted = accepted; taken = taken; total = total })

-- first the shape of the whole tree, then the ranges
abbrev pub receipts_of_tree : Data → Result ReceiptsValue Refusal
receipts_of_tree d = if has_receipts_shape d then receipts_of_values d else Err wrong_shape

-- the receipts that the bytes describe, or why they describe none
unfoldable pub receipts_of : List ℕ → Result ReceiptsValue Refusal
receipts_of bytes = tree_of bytes >>= receipts_of_tree
