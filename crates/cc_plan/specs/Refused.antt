-- Refused claims: for each kind of mistake a small case, and a claim about it that the clause doesn't admit.
use Rattle.std.specs.Prelude.{◌≡◌, ℕ, [], ◌∷◌, true, Some, Ok, Err, codes}
use Rattle.serde_json.specs.Data.{Data, Items, Members, Num, put}
use Rattle.serde_json.specs.Find.{get}
use Rattle.cc_plan.specs.Names.{Pass}
use Rattle.cc_plan.specs.Plan.{PlanValue}
use Rattle.cc_plan.specs.PlanOf.{config_of, plan_of_values, values_of_tree, with_known_passes}
use Rattle.cc_plan.specs.Refusal.{Refusal, wrong_shape}

-- a claim that doesn't hold
abbrev pub Refused : Type 0 → Type 0
Refused claim = claim → ⊥

abbrev pub number : ℕ → Data
number n = Data.number (Num.unsigned n)

abbrev pub no_elements : Data
no_elements = Data.array Items.no_items

-- a plan of one sender without calls and of one receiver that takes nothing
abbrev pub small_plan : Data
small_plan = Data.object (Members.member (codes "bound") (number 1) (Members.member (codes "capacity") (number 1) (Members.member (codes "life") (number 1)
    (Members.member (codes "receivers") (Data.array (Items.item (number 0) Items.no_items)) (Members.member (codes "schedule") no_elements
    (Members.member (codes "senders") (Data.array (Items.item no_elements Items.no_items)) Members.no_members))))))

-- its only sender is sender 1, and the schedule names sender 2
abbrev pub with_stranger : PlanValue
with_stranger = record { version = 1; config = config_of 1 1 1 1 1 1; senders = [] ∷ []; receivers = 0 ∷ []; schedule = (Pass.Sender 2, 1) ∷ [] }

pub record RefusedClaims : Type 0 where
  -- of two members of one key the first has the value
  pub first_member_counts : Refused (get (codes "life") (Data.object (put (codes "life") Data.null (put (codes "life") (Data.boolean true) Members.no_members))) ≡ Some (Data.boolean true))
  -- the capacity and the bound are out of their ranges, and the bound is reported
  pub bound_is_reported_first : Refused (plan_of_values (Data.object (Members.member (codes "bound") Data.null (Members.member (codes "capacity") Data.null Members.no_members))) ≡ Err (Refusal.out_of_range (codes "bound")))
  -- a plan of the right shape has the wrong one
  pub each_plan_is_refused : Refused (values_of_tree small_plan ≡ Err wrong_shape)
  -- a plan whose schedule names a pass that isn't there is a plan
  pub stranger_is_admitted : (p : PlanValue) → Refused (with_known_passes with_stranger ≡ Ok p)
