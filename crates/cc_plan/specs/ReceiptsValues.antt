-- The values of a tree that has the shape of receipts, in their ranges.
use Rattle.std.specs.Prelude.{ℕ, ◌==◌, ◌-◌, ◌^◌, List, codes, if◌then◌else◌, Option, Some, None, option_map, option_and_then, is_some, slice_get}
use Rattle.serde_json.specs.Data.{Data}
use Rattle.serde_json.specs.Find.{get, as_null}
use Rattle.cc_plan.specs.Json.{◌>>=◌, elements, each, whole_number, number_in, body_as}
use Rattle.cc_plan.specs.Names.{Body, SendReceipt, TakeReceipt}

-- any 64-bit number, or none if it is absent or null
abbrev pub total_in : Option Data → Option (Option ℕ)
total_in None = Some None
total_in (Some d) = if is_some (as_null d) then Some None else option_map Some (whole_number d)

abbrev pub total_of : Data → Option (Option ℕ)
total_of d = total_in (get (codes "total") d)

-- the whole number at a place of a row, if it is in its range
abbrev pub part : (place low high : ℕ) → List Data → Option ℕ
part place low high ds = option_and_then (number_in low high) (slice_get ds place)

-- the body at a place of a row
abbrev pub body_at : (version place : ℕ) → List Data → Option Body
body_at version place ds = option_and_then (body_as version) (slice_get ds place)

-- of version 2 those of eight groups
abbrev pub most_receivers : (version : ℕ) → ℕ
most_receivers version = if version == 2 then 512 else 64

-- a sender, its send's number, the item's place and its body
abbrev pub send_receipt_of : (version : ℕ) → Data → Option SendReceipt
send_receipt_of version d = do
  ds ← elements d
  sender ← part 0 1 64 ds
  number ← part 1 1 (2 ^ 32 - 1) ds
  place ← part 2 0 (2 ^ 64 - 1) ds
  body ← body_at version 3 ds
  Some (record { sender = sender; number = number; place = place; body = body })

-- a receiver, the item's place, its sender, its send's number and its body
abbrev pub take_receipt_of : (version : ℕ) → Data → Option TakeReceipt
take_receipt_of version d = do
  ds ← elements d
  receiver ← part 0 1 (most_receivers version) ds
  place ← part 1 0 (2 ^ 64 - 1) ds
  sender ← part 2 1 64 ds
  number ← part 3 1 (2 ^ 32 - 1) ds
  body ← body_at version 4 ds
  Some (record { receiver = receiver; item = record { place = place; sender = sender; number = number; body = body } })

abbrev pub accepted_of : (version : ℕ) → Data → Option (List SendReceipt)
accepted_of version d = do
  ds ← elements d
  each (send_receipt_of version) ds

abbrev pub taken_of : (version : ℕ) → Data → Option (List TakeReceipt)
taken_of version d = do
  ds ← elements d
  each (take_receipt_of version) ds
