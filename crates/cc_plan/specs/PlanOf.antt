-- The plan of an input, or why there is none.
use Rattle.std.specs.Prelude.{ℕ, ◌*◌, ◌/◌, ◌-◌, ◌^◌, Bool, not, List, codes, length, if◌then◌else◌, Option, Some, None, Result, Ok, Err}
use Rattle.std.specs.List.{position}
use Rattle.serde_json.specs.Data.{Data}
use Rattle.cc_model.specs.Range.{within}
use Rattle.cc_plan.specs.Names.{Config, Pass}
use Rattle.cc_plan.specs.Json.{number_in}
use Rattle.cc_plan.specs.PlanShape.{has_plan_shape}
use Rattle.cc_plan.specs.PlanValues.{groups_of, senders_of, receivers_of, schedule_of}
use Rattle.cc_plan.specs.Version.{version_of}
use Rattle.cc_plan.specs.Refusal.{◌>>=◌, Refusal, wrong_shape, unknown_pass, or_range, value_at, tree_of}
use Rattle.cc_plan.specs.Plan.{PlanValue}

abbrev pub config_of : (groups senders receivers capacity bound life : ℕ) → Config
config_of groups senders receivers capacity bound life = record { senders = senders; receivers = receivers; capacity = capacity; bound = bound; life = life; per_sender = 2 ^ 32 - 1; groups = groups }

-- the plan of these numbers and of the lists, if they are in their ranges
unfoldable pub plan_of_lists : (version groups capacity bound life : ℕ) → Data → Result PlanValue Refusal
plan_of_lists version groups capacity bound life d = do
  senders ← value_at (senders_of version) (codes "senders") d
  receivers ← value_at (receivers_of groups) (codes "receivers") d
  schedule ← value_at schedule_of (codes "schedule") d
  Ok (record { version = version; config = config_of groups (length senders) (length receivers / groups) capacity bound life; senders = senders; receivers = receivers; schedule = schedule })

-- the values in their ranges; of several out of range the first in this order is reported
unfoldable pub plan_of_values : Data → Result PlanValue Refusal
plan_of_values d = do
  version ← or_range (codes "version") (version_of d)
  groups ← or_range (codes "groups") (groups_of version d)
  capacity ← value_at (number_in 1 4096) (codes "capacity") d
  bound ← value_at (number_in 1 1024) (codes "bound") d
  life ← value_at (number_in 1 (2 ^ 48)) (codes "life") d
  plan_of_lists version groups capacity bound life d

-- the configuration has this pass; the receivers of all groups are numbered through
abbrev pub has_pass : Config → Pass → Bool
has_pass c (Pass.Sender s) = within 1 c.senders s
has_pass c (Pass.Receiver r) = within 1 (c.groups * c.receivers) r

abbrev pub known_passes : Option ℕ → PlanValue → Result PlanValue Refusal
known_passes None p = Ok p
known_passes (Some place) p = Err (unknown_pass place)

-- first the shape of the whole tree, then the ranges
abbrev pub values_of_tree : Data → Result PlanValue Refusal
values_of_tree d = if has_plan_shape d then plan_of_values d else Err wrong_shape

-- the plan, unless its schedule names a pass that isn't there
abbrev pub with_known_passes : PlanValue → Result PlanValue Refusal
with_known_passes p = known_passes (position (λ e. not (has_pass p.config e.0)) p.schedule) p

-- the plan of the tree: its values first, then the passes
abbrev pub plan_of_tree : Data → Result PlanValue Refusal
plan_of_tree d = values_of_tree d >>= with_known_passes

-- the plan that the bytes describe, or why they describe none
unfoldable pub plan_of : List ℕ → Result PlanValue Refusal
plan_of bytes = tree_of bytes >>= plan_of_tree
