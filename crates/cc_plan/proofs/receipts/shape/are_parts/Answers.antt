use Rattle.std.proofs.Common.{◌≡◌, ◌++◌, ◌∷◌, [], ◌&&◌, ℕ, List, Bool, true, false, map, length, refl, sym, arith}
use Rattle.std.proofs.Math.Dec.{eqb}
use Rattle.std.proofs.Math.Seq.{take-append_seam}
use Rattle.std.proofs.lemmas.Bool.{eqb-true}
use Rattle.std.proofs.lemmas.Bool.Decides.{nat_tests}
use Rattle.std.proofs.lemmas.List.{length-append, length-map, map-append}
use Rattle.std.specs.List.{list_all}
use Rattle.serde_json.specs.Data.{Data}
use Rattle.serde_json.specs.View.{view}
use Rattle.serde_json.specs.declared.value.Value.{Value}
use Rattle.cc_model.proofs.Grows.{get_last}
use Rattle.cc_plan.specs.Json.{is_number, is_body}
use Rattle.cc_plan.specs.ReceiptsShape.{are_parts}
use Rattle.cc_plan.proofs.receipts.shape.are_parts.Goals as goal
use Rattle.cc_plan.proofs.receipts.shape.are_parts.Goals.{then-first-numbers, else-first-numbers}

-- exactly this number, and a value after them
of_count : (version : ℕ) (ds : List Data) (d : Data) → are_parts version (length ds) (ds ++ d ∷ []) ≡ (list_all is_number ds && is_body version d)
of_count version ds d = rw (take-append_seam ds (d ∷ []), get_last ds d, length-append ds (d ∷ [])) grind (arith, nat_tests)

-- another count
when_count : (b : Bool) (version numbers : ℕ) (ds : List Data) (d : Data) → eqb (length ds) numbers ≡ b
    → are_parts version numbers (ds ++ d ∷ []) ≡ (b && list_all is_number ds && is_body version d)
when_count true version numbers ds d same = rw (sym (eqb-true (length ds) numbers same)) (of_count version ds d)
when_count false version numbers ds d differs = rw (length-append ds (d ∷ [])) grind (arith, nat_tests, differs)

with_last : (version numbers : ℕ) (all first : List Value) (last : Value) → all ≡ first ++ last ∷ []
    → are_parts version numbers (map view all) ≡ (eqb (length first) numbers && list_all is_number (map view first) && is_body version (view last))
with_last version numbers all first last is = rw (is, map-append view first (last ∷ []), sym (length-map first view)) (when_count _ version numbers (map view first) (view last) refl)

pub returns-then-are_numbers : goal.returns-then-are_numbers
returns-then-are_numbers c = let parts = with_last c.args.version c.args.numbers c.args.list.now c.in-Some.first.now c.in-Some.body.now c.in-Some.ensures.cases.0 in
    elim c.if-first-numbers.branch [
      | then-first-numbers w ↦ rw parts grind (arith, nat_tests)
      | else-first-numbers w ↦ rw parts grind (arith, nat_tests)
    ]

pub returns-else-are_numbers : goal.returns-else-are_numbers
returns-else-are_numbers c = let parts = with_last c.args.version c.args.numbers c.args.list.now c.in-Some.first.now c.in-Some.body.now c.in-Some.ensures.cases.0 in
    elim c.if-first-numbers.branch [
      | then-first-numbers w ↦ rw parts grind (arith, nat_tests)
      | else-first-numbers w ↦ rw parts grind (arith, nat_tests)
    ]
