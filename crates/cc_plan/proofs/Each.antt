-- The values of the elements of a list, one element after another.
use Rattle.std.proofs.Common.{ℕ, ◌≡◌, ◌<◌, ◌≤◌, ◌+◌, ◌++◌, List, [], ◌∷◌, map, length, get_or, drop, Option, Some, None, option_map, option_and_then, refl, ap, sym, ◌∙◌, append_assoc, append-nil}
use Rattle.std.proofs.lemmas.List.{drop_all}
use Rattle.serde_json.specs.Data.{Data}
use Rattle.serde_json.specs.View.{view}
use Rattle.serde_json.specs.declared.value.Value.{Value}
use Rattle.cc_plan.specs.Json.{each}
use Rattle.cc_plan.proofs.Trees.{from_place}

-- one element, and what the rest gives
abbrev before : {A : Type 0} → Option A → Option (List A) → Option (List A)
before o rest = option_and_then (λ x. option_map (λ xs. x ∷ xs) rest) o

each_from : {A : Type 0} (f : Data → Option A) (vs : List Value) (i : ℕ) (d : Value) → i < length vs → d ≡ get_or vs i d
    → each f (map view (drop i vs)) ≡ before (f (view d)) (each f (map view (drop (i + 1) vs)))
each_from f vs i d h at = ap (each f) (from_place vs i d h) ∙ ap (λ (v : Value). before (f (view v)) (each f (map view (drop (i + 1) vs)))) (sym at)

-- an element that gives nothing
pub gives_none : {A : Type 0} (f : Data → Option A) (vs : List Value) (i : ℕ) (d : Value) (done : List A) (all : Option (List A)) → i < length vs → d ≡ get_or vs i d → None ≡ f (view d)
    → option_map (λ xs. done ++ xs) (each f (map view (drop i vs))) ≡ all → None ≡ all
gives_none f vs i d done all h at none so_far =
    ap (λ (o : Option _). option_map (λ (xs : List _). done ++ xs) (before o (each f (map view (drop (i + 1) vs))))) none
    ∙ ap (option_map (λ (xs : List _). done ++ xs)) (sym (each_from f vs i d h at)) ∙ so_far

joined : {A : Type 0} (done : List A) (x : A) (o : Option (List A)) → option_map (λ xs. (done ++ x ∷ []) ++ xs) o ≡ option_map (λ xs. done ++ xs) (option_map (λ xs. x ∷ xs) o)
joined done x None = refl
joined done x (Some xs) = ap Some (append_assoc done (x ∷ []) xs)

gives_more : {A : Type 0} (f : Data → Option A) (vs : List Value) (i : ℕ) (d : Value) (done : List A) (x : A) (all : Option (List A)) → i < length vs → d ≡ get_or vs i d → Some x ≡ f (view d)
    → option_map (λ xs. done ++ xs) (each f (map view (drop i vs))) ≡ all
    → option_map (λ xs. (done ++ x ∷ []) ++ xs) (each f (map view (drop (i + 1) vs))) ≡ all
gives_more f vs i d done x all h at some so_far =
    joined done x (each f (map view (drop (i + 1) vs)))
    ∙ ap (λ (o : Option _). option_map (λ (xs : List _). done ++ xs) (before o (each f (map view (drop (i + 1) vs))))) some
    ∙ ap (option_map (λ (xs : List _). done ++ xs)) (sym (each_from f vs i d h at)) ∙ so_far

-- an element that has a value, which was put after the others
pub gives_some : {A : Type 0} (f : Data → Option A) (vs : List Value) (i : ℕ) (d : Value) (done now : List A) (x : A) (all : Option (List A)) → i < length vs → d ≡ get_or vs i d → Some x ≡ f (view d)
    → now ≡ done ++ x ∷ []
    → option_map (λ xs. done ++ xs) (each f (map view (drop i vs))) ≡ all
    → option_map (λ xs. now ++ xs) (each f (map view (drop (i + 1) vs))) ≡ all
gives_some f vs i d done now x all h at some put so_far =
    ap (λ (l : List _). option_map (λ (xs : List _). l ++ xs) (each f (map view (drop (i + 1) vs)))) put ∙ gives_more f vs i d done x all h at some so_far

-- after the last element
pub gave_all : {A : Type 0} (f : Data → Option A) (vs : List Value) (i : ℕ) (done : List A) (all : Option (List A)) → length vs ≤ i
    → option_map (λ xs. done ++ xs) (each f (map view (drop i vs))) ≡ all → Some done ≡ all
gave_all f vs i done all h so_far =
    ap Some (sym (append-nil done)) ∙ ap (λ (l : List Value). option_map (λ (xs : List _). done ++ xs) (each f (map view l))) (sym (drop_all i vs h)) ∙ so_far
