-- The values of a plan's tree that has its shape, in their ranges.
use Rattle.std.specs.Prelude.{ℕ, ◌==◌, ◌/◌, ◌%◌, ◌&&◌, Bool, List, codes, length, if◌then◌else◌, Option, Some, None, option_map, option_and_then}
use Rattle.serde_json.specs.Data.{Data}
use Rattle.serde_json.specs.Find.{get}
use Rattle.cc_model.specs.Range.{within}
use Rattle.cc_plan.specs.Names.{Call, Pass}
use Rattle.cc_plan.specs.Json.{◌>>=◌, elements, pair_of, each, is_word, number_in, body_as}
use Rattle.cc_plan.specs.PlanShape.{named}

-- as many elements as the range allows
abbrev pub counted : ℕ → ℕ → Data → Option (List Data)
counted low high d = do
  ds ← elements d
  if within low high (length ds) then Some ds else None

-- in how many groups the receivers are: in version 1 in one
abbrev pub groups_of : (version : ℕ) → Data → Option ℕ
groups_of version d = if version == 2 then option_and_then (number_in 1 8) (get (codes "groups") d) else Some 1

-- close, or a send of a body
abbrev pub call_of : (version : ℕ) → Data → Option Call
call_of version d = if is_word (codes "close") d then Some Call.Close else option_map Call.Send (body_as version d)

abbrev pub calls_of : (version : ℕ) → Data → Option (List Call)
calls_of version d = do
  ds ← counted 0 65536 d
  each (call_of version) ds

abbrev pub senders_of : (version : ℕ) → Data → Option (List (List Call))
senders_of version d = do
  ds ← counted 1 64 d
  each (calls_of version) ds

-- this number of receivers makes up the groups: each has as many as the others, 1 to 64
abbrev pub fill_groups : (groups count : ℕ) → Bool
fill_groups groups count = (count % groups == 0) && within 1 64 (count / groups)

-- how often each takes, group by group
abbrev pub receivers_of : (groups : ℕ) → Data → Option (List ℕ)
receivers_of groups d = do
  ds ← elements d
  if fill_groups groups (length ds) then each (number_in 0 65536) ds else None

abbrev pub entry_of : Data → Option (Pass × ℕ)
entry_of d = do
  ds ← elements d
  p ← pair_of ds
  pass ← named p.0
  n ← number_in 1 100000 p.1
  Some (pass, n)

abbrev pub schedule_of : Data → Option (List (Pass × ℕ))
schedule_of d = do
  ds ← counted 0 65536 d
  each entry_of ds
