-- The least place of each kind of fault among numbers in order.
use Rattle.std.proofs.Common.{◌≡◌, ℕ, ◌+◌, ◌-◌, ◌<◌, ◌≤◌, ◌==◌, ◌⊎◌, inl, inr, List, length, true, false, Option, Some, None, Result, Ok, Err, get_or, count_by, Contains, Any, IsSomeAnd, is_err, sym, ◌∙◌, subst, arith, eq-eqb}
use Rattle.std.specs.Ordering.{nat_cmp}
use Rattle.std.specs.List.Sorted.{IsNonDecreasing, IsBinarySearchResult}
use Rattle.std.proofs.lemmas.List.{get_or_default}
use Rattle.std.proofs.lemmas.List.Sorted.{searched}
use Rattle.std.proofs.lemmas.List.Elements.{Contains-get_or}
use Rattle.std.proofs.lemmas.Bool.{eqb-true, cases_lt}
use Rattle.cc_audit.specs.Least.{IsLeast, sooner_of}
use Rattle.cc_audit.proofs.Soonest.{least_either, least_same}
use Rattle.cc_audit.proofs.Counts.{Two, count_of_two, two_of_count}

-- the place of a number
at : (xs : List ℕ) (p : ℕ) → Contains xs p → (k : ℕ) × (k < length xs) × (get_or xs k 0 ≡ p)
at xs p h = (h.0, h.1, get_or_default xs h.0 0 p h.1 ∙ h.2)

-- ---- a number that occurs twice

abbrev pub Rises : List ℕ → ℕ → Type 0
Rises xs n = (a b : ℕ) → a < b → b < n → get_or xs a 0 < get_or xs b 0

abbrev pub TwiceIn : List ℕ → ℕ → Type 0
TwiceIn xs p = 2 ≤ count_by (λ x. x == p) xs

-- its second place is past the part that rises
twice_at : (xs : List ℕ) (p n : ℕ) → Rises xs n → TwiceIn xs p → (b : ℕ) × (n ≤ b) × (b < length xs) × (get_or xs b 0 ≡ p)
twice_at xs p n rises h =
    let two : Two (λ x. x == p) xs = two_of_count (λ x. x == p) xs h in
    let at_first : get_or xs two.first 0 ≡ p = eqb-true _ p (two.first_passes 0) in
    let at_second : get_or xs two.second 0 ≡ p = eqb-true _ p (two.second_passes 0) in
    grind (arith, rises two.first two.second two.order, two.second, two.below)

pub none_twice : (xs : List ℕ) (n : ℕ) → length xs ≤ n → Rises xs n → IsLeast (TwiceIn xs) None
none_twice xs n all rises = λ q h. let second = twice_at xs q n rises h in absurd (omega (arith, second.1, second.2))

pub first_twice : (xs : List ℕ) (i p : ℕ) → IsNonDecreasing xs → 0 < i → i < length xs → p ≡ get_or xs i 0 → p ≡ get_or xs (i - 1) 0 → Rises xs i → IsLeast (TwiceIn xs) (Some p)
first_twice xs i p up pos l is before rises = (
  count_of_two (λ x. x == p) xs (i - 1) i 0 (omega arith) l (eq-eqb _ p (sym before)) (eq-eqb _ p (sym is)),
  λ q below h. let second = twice_at xs q i rises h in absurd (omega (arith, second.3, is, up i second.0 0 second.1 second.2)),
)

pub rises_more : (xs : List ℕ) (i p : ℕ) → IsNonDecreasing xs → 0 < i → i < length xs → p ≡ get_or xs i 0 → (p ≡ get_or xs (i - 1) 0 → ⊥) → Rises xs i → Rises xs (i + 1)
rises_more xs i p up pos l is differ rises = λ a b lt below. grind (arith, rises a b lt, up a (i - 1) 0, up (i - 1) i 0)

-- ---- a number that another list lacks

pub lacks : (xs : List ℕ) (x : ℕ) (r : Result ℕ ℕ) → IsBinarySearchResult (λ y. nat_cmp y x) xs r → IsNonDecreasing xs → is_err r ≡ true → Contains xs x → ⊥
lacks xs x (Ok i) found up missing h = cc
lacks xs x (Err i) found up missing h =
    let here = at xs x h in
    let round = searched xs x (Err i) found (λ a b. up a b 0) in
    grind (arith, round.1 here.0, here.2, round.2 here.0, here.1)

pub has : (xs : List ℕ) (x : ℕ) (r : Result ℕ ℕ) → IsBinarySearchResult (λ y. nat_cmp y x) xs r → IsNonDecreasing xs → is_err r ≡ false → Contains xs x
has xs x (Ok i) found up hit =
    let here = searched xs x (Ok i) found (λ a b. up a b 0) in
    subst (Contains xs) here.1 (Contains-get_or xs i 0 here.0)
has xs x (Err i) found up hit = cc

abbrev pub AllIn : (sent taken : List ℕ) → ℕ → Type 0
AllIn sent taken n = (k : ℕ) → k < n → Contains sent (get_or taken k 0)

abbrev pub Unsent : (sent taken : List ℕ) → ℕ → Type 0
Unsent sent taken p = Contains taken p × (Contains sent p → ⊥)

pub none_unsent : (sent taken : List ℕ) (n : ℕ) → length taken ≤ n → AllIn sent taken n → IsLeast (Unsent sent taken) None
none_unsent sent taken n all each = λ q h. let here = at taken q h.0 in h.1 (subst (Contains sent) here.2 (each here.0 (omega (arith, here.1))))

pub first_unsent : (sent taken : List ℕ) (i p : ℕ) → IsNonDecreasing taken → i < length taken → p ≡ get_or taken i 0 → (Contains sent p → ⊥) → AllIn sent taken i → IsLeast (Unsent sent taken) (Some p)
first_unsent sent taken i p up l is missing each = (
  (subst (Contains taken) (sym is) (Contains-get_or taken i 0 l), missing),
  λ q below h.
      let here = at taken q h.0 in
      grind (arith, h.1, here.2, each here.0, up i here.0 0, here.1),
)

-- ---- a number that is left out

-- the first n of the list are the numbers below next
pub record Filled (xs : List ℕ) (n next : ℕ) : Type 0 where
  pub below : (k : ℕ) → k < n → get_or xs k 0 < next
  pub each : (q : ℕ) → q < next → Contains xs q

abbrev pub LeftOut : List ℕ → ℕ → Type 0
LeftOut xs p = (Contains xs p → ⊥) × Any (λ x. p < x) xs

any_at : (xs : List ℕ) (p : ℕ) → Any (λ x. p < x) xs → (k : ℕ) × (k < length xs) × (p < get_or xs k 0)
any_at xs p h = (h.0, h.2, omega (arith, get_or_default xs h.0 0 h.1 h.2, h.3, h.4))

pub none_left_out : (xs : List ℕ) (n next : ℕ) → length xs ≤ n → Filled xs n next → IsLeast (LeftOut xs) None
none_left_out xs n next all filled = λ q h.
    let above = any_at xs q h.1 in
    h.0 (filled.each q (omega (arith, filled.below above.0 (omega (arith, above.1)), above.2)))

pub filled_more : (xs : List ℕ) (i next p : ℕ) → IsNonDecreasing xs → i < length xs → p ≡ get_or xs i 0 → p ≤ next → Filled xs i next → Filled xs (i + 1) (p + 1)
filled_more xs i next p up l is under filled = record {
  below = λ k lt. omega (arith, up k i 0 (omega arith) l, is);
  each = λ q lt. elim (cases_lt q p) [
    | inl below ↦ filled.each q (omega arith)
    | inr past ↦ (let same : p ≡ q = omega arith in subst (Contains xs) same (subst (Contains xs) (sym is) (Contains-get_or xs i 0 l)))
  ];
}

-- ---- a number from a bound on

abbrev pub From : List ℕ → ℕ → ℕ → Type 0
From xs bound p = Contains xs p × (bound ≤ p)

abbrev pub AllBelow : List ℕ → ℕ → ℕ → Type 0
AllBelow xs bound n = (k : ℕ) → k < n → get_or xs k 0 < bound

-- in one of two lists
pub first_of_both : (total : Option ℕ) (n : ℕ) (xs ys : List ℕ) (a b r : Option ℕ) → total ≡ Some n → r ≡ sooner_of a b → IsLeast (From xs n) a → IsLeast (From ys n) b
    → IsLeast (λ p. IsSomeAnd total (λ m. m ≤ p) × (Contains xs p ⊎ Contains ys p)) r
first_of_both total n xs ys a b r given is left right = rw (given, is)
    (least_same (λ p. From xs n p ⊎ From ys n p) (λ p. (n ≤ p) × (Contains xs p ⊎ Contains ys p)) (sooner_of a b)
    (λ p h. elim h [ inl x ↦ (x.1, inl x.0) | inr y ↦ (y.1, inr y.0) ])
    (λ p h. elim h.1 [ inl x ↦ inl (x, h.0) | inr y ↦ inr (y, h.0) ])
    (least_either (From xs n) (From ys n) a b left right))
