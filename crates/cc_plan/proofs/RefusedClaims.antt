-- The clauses refuse these claims.
use Rattle.std.proofs.Common.{◌≡◌, true, Some, Ok, Err, codes}
use Rattle.serde_json.specs.Data.{Data, Members, put}
use Rattle.serde_json.specs.Find.{get}
use Rattle.cc_plan.specs.Plan.{PlanValue}
use Rattle.cc_plan.specs.PlanOf.{plan_of_lists, plan_of_values, values_of_tree, with_known_passes}
use Rattle.cc_plan.specs.PlanShape.{has_lists, has_numbers, has_plan_shape}
use Rattle.cc_plan.specs.Refusal.{Refusal, wrong_shape}
use Rattle.cc_plan.specs.Refused.{RefusedClaims, small_plan, with_stranger}

first_counts : get (codes "life") (Data.object (put (codes "life") Data.null (put (codes "life") (Data.boolean true) Members.no_members))) ≡ Some (Data.boolean true) → ⊥
first_counts is = absurd (cc is)

bound_first : plan_of_values (Data.object (Members.member (codes "bound") Data.null (Members.member (codes "capacity") Data.null Members.no_members))) ≡ Err (Refusal.out_of_range (codes "bound")) → ⊥
unfolding plan_of_values
bound_first is = absurd (cc is)

small_plan_refused : values_of_tree small_plan ≡ Err wrong_shape → ⊥
unfolding has_plan_shape has_numbers has_lists plan_of_values plan_of_lists
small_plan_refused is = absurd (cc is)

admitted : (p : PlanValue) → with_known_passes with_stranger ≡ Ok p → ⊥
admitted p is = absurd (cc is)

pub claims_refused : RefusedClaims
claims_refused = record {
  first_member_counts = first_counts;
  bound_is_reported_first = bound_first;
  each_plan_is_refused = small_plan_refused;
  stranger_is_admitted = admitted;
}
