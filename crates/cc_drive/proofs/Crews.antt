-- Workers that are gathered, one after another.
use Rattle.std.proofs.Common.{◌≡◌, ◌≢◌, ℕ, suc, ◌+◌, length, subst, Bool, true, false, ◌&&◌, List, [], ◌∷◌, ◌++◌, Option, Some, None, IfSome, if◌then◌else◌, map, is_some, refl, sym, ap, ◌∙◌, append_assoc, append-nil}
use Rattle.std.specs.List.{AllByRecursion}
use Rattle.std.specs.Option.{option_to_list}
use Rattle.cc_drive.specs.Row.{InRow}
use Rattle.cc_drive.specs.Crew.{present, least_missing, in_turn, sooner}

present_more : {A : Type 0} (p : Option A) (ps : List (Option A)) → present (p ∷ ps) ≡ option_to_list p ++ present ps
present_more (Some x) ps = refl
present_more None ps = refl

missing_more : {A : Type 0} (n : ℕ) (p : Option A) (ps : List (Option A)) → least_missing n (p ∷ ps) ≡ sooner (if is_some p then None else Some n) (least_missing (n + 1) ps)
missing_more n (Some x) ps = refl
missing_more n None ps = refl

sooner_more : {A : Type 0} (x y z : Option A) → sooner (sooner x y) z ≡ sooner x (sooner y z)
sooner_more (Some x) y z = refl
sooner_more None y z = refl

-- one pass more
pub passes_more : {D P : Type 0} (pass : D → Option P) (xs new all : List P) (d : D) (ds rest : List D) → ds ≡ d ∷ rest → new ≡ xs ++ option_to_list (pass d) → xs ++ present (map pass ds) ≡ all → new ++ present (map pass rest) ≡ all
passes_more pass xs new all d ds rest front more was =
    ap (λ l. l ++ present (map pass rest)) more ∙ append_assoc xs (option_to_list (pass d)) (present (map pass rest)) ∙ ap (λ l. xs ++ l) (sym (present_more (pass d) (map pass rest))) ∙ ap (λ l. xs ++ present (map pass l)) (sym front) ∙ was

-- and the receipts of one more
pub receipts_more : {D X : Type 0} (receipts : D → List X) (xs new all : List X) (d : D) (ds rest : List D) → ds ≡ d ∷ rest → new ≡ xs ++ receipts d → xs ++ in_turn (map receipts ds) ≡ all → new ++ in_turn (map receipts rest) ≡ all
receipts_more receipts xs new all d ds rest front more was =
    ap (λ l. l ++ in_turn (map receipts rest)) more ∙ append_assoc xs (receipts d) (in_turn (map receipts rest)) ∙ ap (λ l. xs ++ in_turn (map receipts l)) (sym front) ∙ was

-- whether one more is missing
pub missing_now : {D P : Type 0} (pass : D → Option P) (limited now all : Option ℕ) (n : ℕ) (d : D) (ds rest : List D) → ds ≡ d ∷ rest → now ≡ sooner limited (if is_some (pass d) then None else Some n) → sooner limited (least_missing n (map pass ds)) ≡ all → sooner now (least_missing (n + 1) (map pass rest)) ≡ all
missing_now pass limited now all n d ds rest front is was =
    ap (λ x. sooner x (least_missing (n + 1) (map pass rest))) is ∙ sooner_more limited (if is_some (pass d) then None else Some n) (least_missing (n + 1) (map pass rest)) ∙ ap (sooner limited) (sym (missing_more n (pass d) (map pass rest)))
    ∙ ap (λ l. sooner limited (least_missing n (map pass l))) (sym front) ∙ was

-- at the end none is left
pub none_left : {D A : Type 0} (of : List D → List A) (xs all : List A) (ds : List D) → of [] ≡ [] → ds ≡ [] → xs ++ of ds ≡ all → xs ≡ all
none_left of xs all ds none end was = sym (append-nil xs) ∙ ap (λ l. xs ++ l) (sym none) ∙ ap (λ l. xs ++ of l) (sym end) ∙ was

-- nor is one missing after the end
pub missing_end : {D P : Type 0} (pass : D → Option P) (limited all : Option ℕ) (n : ℕ) (ds : List D) → ds ≡ [] → sooner limited (least_missing n (map pass ds)) ≡ all → limited ≡ all
missing_end pass limited all n ds end was = sym (sooner_none limited) ∙ ap (λ l. sooner limited (least_missing n (map pass l))) (sym end) ∙ was
  where
    sooner_none : {A : Type 0} (x : Option A) → sooner x None ≡ x
    sooner_none (Some x) = refl
    sooner_none None = refl

-- both of two, if both together
pub first_too : (a b : Bool) → (a && b) ≡ true → a ≡ true
first_too true b is = refl
first_too false b is = absurd (cc is)

pub second_too : (a b : Bool) → (a && b) ≡ true → b ≡ true
second_too true b is = is
second_too false b is = absurd (cc is)

-- the results of workers, if each pass is back

pub crew_passes : {D P : Type 0} (pass : D → Option P) (Is : ℕ → P → Type 0) (n m : ℕ) (ds : List D) → least_missing m (map pass ds) ≡ None → InRow (λ k d. IfSome (pass d) (Is k)) n ds → InRow Is n (present (map pass ds))
crew_passes pass Is n m [] none row = tt
crew_passes {D} {P} pass Is n m (d ∷ ds) none row = go (pass d) none row.0 (λ e. crew_passes pass Is (n + 1) (m + 1) ds e row.1)
  where
    go : (p : Option P) → least_missing m (p ∷ map pass ds) ≡ None → IfSome p (Is n) → (least_missing (m + 1) (map pass ds) ≡ None → InRow Is (n + 1) (present (map pass ds))) → InRow Is n (present (p ∷ map pass ds))
    go (Some x) none is rest = (is, rest none)
    go None none is rest = absurd (cc none)

pub crew_count : {D P : Type 0} (pass : D → Option P) (m : ℕ) (ds : List D) → least_missing m (map pass ds) ≡ None → length (present (map pass ds)) ≡ length ds
crew_count pass m [] none = refl
crew_count {D} {P} pass m (d ∷ ds) none = go (pass d) none (λ e. crew_count pass (m + 1) ds e)
  where
    go : (p : Option P) → least_missing m (p ∷ map pass ds) ≡ None → (least_missing (m + 1) (map pass ds) ≡ None → length (present (map pass ds)) ≡ length ds) → length (present (p ∷ map pass ds)) ≡ length (d ∷ ds)
    go (Some x) none rest = ap suc (rest none)
    go None none rest = absurd (cc none)

pub crew_receipts : {D P X : Type 0} (pass : D → Option P) (kept : D → List X) (whole : D → Bool) (receipts : P → List X) (n m : ℕ) (ds : List D) → least_missing m (map pass ds) ≡ None → AllByRecursion (λ d. whole d ≡ true) ds
    → InRow (λ k d. IfSome (pass d) (λ p. whole d ≡ true → kept d ≡ receipts p)) n ds → in_turn (map kept ds) ≡ in_turn (map receipts (present (map pass ds)))
crew_receipts pass kept whole receipts n m [] none all row = refl
crew_receipts {D} {P} {X} pass kept whole receipts n m (d ∷ ds) none all row = go (pass d) none row.0 (λ e. crew_receipts pass kept whole receipts (n + 1) (m + 1) ds e all.1 row.1)
  where
    go : (p : Option P) → least_missing m (p ∷ map pass ds) ≡ None → IfSome p (λ x. whole d ≡ true → kept d ≡ receipts x) → (least_missing (m + 1) (map pass ds) ≡ None → in_turn (map kept ds) ≡ in_turn (map receipts (present (map pass ds)))) → kept d ++ in_turn (map kept ds) ≡ in_turn (map receipts (present (p ∷ map pass ds)))
    go (Some x) none is rest = λ i. is all.0 i ++ rest none i
    go None none is rest = absurd (cc none)

-- and what holds of each that is back
pub crew_all : {D P : Type 0} (pass : D → Option P) (Is : ℕ → P → Type 0) (Q : P → Type 0) → ((k : ℕ) (p : P) → Is k p → Q p) → (n : ℕ) (ds : List D) → InRow (λ k d. IfSome (pass d) (Is k)) n ds → AllByRecursion Q (present (map pass ds))
crew_all pass Is Q f n [] row = tt
crew_all {D} {P} pass Is Q f n (d ∷ ds) row = go (pass d) row.0 (crew_all pass Is Q f (n + 1) ds row.1)
  where
    go : (p : Option P) → IfSome p (Is n) → AllByRecursion Q (present (map pass ds)) → AllByRecursion Q (present (p ∷ map pass ds))
    go (Some x) is rest = (f n x is, rest)
    go None is rest = rest

pub none_of : {A : Type 0} (x : Option A) → ((a : A) → x ≢ Some a) → x ≡ None
none_of (Some a) not = absurd (not a refl)
none_of None not = refl

pub some_at : {A : Type 0} (P : A → Type 0) (x : Option A) (a : A) → x ≡ Some a → IfSome x P → P a
some_at P x a is holds = subst (λ y. IfSome y P) is holds
