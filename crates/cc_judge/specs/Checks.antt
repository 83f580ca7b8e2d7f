-- What is looked for in a queue of a capacity.
use Rattle.std.specs.Prelude.{◌≡◌, ℕ, ◌≤◌, List, Bool, true, false, Option, Some, slice_get, slice_set}
use Rattle.cc_judge.specs.Names.{Call, Act}

-- the call at this place found the queue full between these times
abbrev pub IsFullCall : List Call → (place begin end : ℕ) → Type 0
IsFullCall calls place begin end = (one : Call) × (slice_get calls place ≡ Some one) × (one.act ≡ Act.Full) × (one.begin ≡ begin) × (one.end ≡ Some end)
