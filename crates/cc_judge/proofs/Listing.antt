-- Lists of calls with a time each, one call further, and sorted.
use Rattle.std.proofs.Common.{◌≡◌, ℕ, zero, suc, ◌+◌, ◌<◌, ◌≤◌, ◌⊎◌, inl, inr, Bool, List, [], ◌∷◌, ◌++◌, length, get_or, Option, Some, None, Contains, IsPermutation, refl, sym, ap, ◌∙◌, subst, arith}
use Rattle.std.specs.List.{slice_get, IsDistinct}
use Rattle.std.specs.List.Sorted.{IsNonDecreasingBy}
use Rattle.std.specs.Prelude.{eqb}
use Rattle.std.proofs.lemmas.Bool.{cases_lt, eqb-false, ne_eqb}
use Rattle.std.proofs.lemmas.Map.Keys.{apart_from_distinct, IsDistinct-from_apart, IsDistinct-IsPermutation}
use Rattle.std.proofs.lemmas.List.Sorted.{Contains-permutation, IsPermutation-sym}
use Rattle.std.proofs.lemmas.Option.{get_or_from_slice_get, slice_get-get_or, slice_get_within}
use Rattle.cc_judge.proofs.Marks.{get_front, get_last}

-- ---- elements by their places

pub some_is : {X : Type 0} (x y : X) → Some x ≡ Some y → x ≡ y
some_is x y same = cc

pub first_is : {X Y : Type 0} (e f : X × Y) → Some e ≡ Some f → e.0 ≡ f.0
first_is e f both = ap (λ g. g.0) (some_is e f both)

pub second_is : {X Y : Type 0} (e f : X × Y) → Some e ≡ Some f → e.1 ≡ f.1
second_is e f both = ap (λ g. g.1) (some_is e f both)

pub contains_at : {X : Type 0} (xs : List X) (x : X) → Contains xs x → (k : ℕ) × (slice_get xs k ≡ Some x)
contains_at xs x has = (has.0, slice_get-get_or xs has.0 x has.1 ∙ ap Some has.2)

pub at_contains : {X : Type 0} (xs : List X) (x : X) (k : ℕ) → slice_get xs k ≡ Some x → Contains xs x
at_contains xs x k is = (k, slice_get_within xs k x is, get_or_from_slice_get xs k x x is)

-- an element of a list with one more behind is one of the list, or that one
pub pushed_at : {X : Type 0} (xs : List X) (x y : X) (k : ℕ) → slice_get (xs ++ x ∷ []) k ≡ Some y → (slice_get xs k ≡ Some y) ⊎ ((k ≡ length xs) × (y ≡ x))
pushed_at [] x y zero is = inr (refl, sym (some_is x y is))
pushed_at [] x y (suc k) is = absurd (cc (is))
pushed_at (z ∷ xs) x y zero is = inl is
pushed_at (z ∷ xs) x y (suc k) is = elim (pushed_at xs x y k is) [ inl had ↦ inl had | inr last ↦ inr (ap suc last.0, last.1) ]

pub at_pushed : {X : Type 0} (xs : List X) (x y : X) (k : ℕ) → slice_get xs k ≡ Some y → slice_get (xs ++ x ∷ []) k ≡ Some y
at_pushed xs x y k is = get_front xs (x ∷ []) k y is

pub last_pushed : {X : Type 0} (xs : List X) (x : X) → slice_get (xs ++ x ∷ []) (length xs) ≡ Some x
last_pushed xs x = get_last xs x

-- a sorted list by its places
pub rises : {X : Type 0} (n : X → ℕ) (xs : List X) (j k : ℕ) (x y : X) → IsNonDecreasingBy n xs → j ≤ k → slice_get xs j ≡ Some x → slice_get xs k ≡ Some y → n x ≤ n y
rises {X = X} n xs j k x y up le x_is y_is = grind (arith, get_or_from_slice_get, slice_get_within)

-- ---- no call is in a list twice

abbrev pub Apart : List (ℕ × ℕ) → Type 0
Apart xs = (j k t u y : ℕ) → slice_get xs j ≡ Some (t, y) → slice_get xs k ≡ Some (u, y) → j ≡ k

same_call : ℕ × ℕ → ℕ × ℕ → Bool
same_call x y = eqb x.1 y.1

flips : (x y : ℕ × ℕ) → same_call x y ≡ same_call y x
unfolding same_call
flips x y = grind arith

to_distinct : (xs : List (ℕ × ℕ)) → Apart xs → IsDistinct same_call xs
unfolding same_call
to_distinct xs apart = IsDistinct-from_apart same_call xs (λ i j d less within.
    let x = get_or xs i d in
    let y = get_or xs j d in
    ne_eqb x.1 y.1 (λ same.
    let clash = apart i j x.0 y.0 y.1 (slice_get-get_or xs i d (omega (arith, less, within)) ∙ ap (λ (n : ℕ). Some (x.0, n)) same) (slice_get-get_or xs j d within) in
    omega (arith, less, clash)))

distinct_less : (xs : List (ℕ × ℕ)) (j k t u y : ℕ) → IsDistinct same_call xs → slice_get xs j ≡ Some (t, y) → slice_get xs k ≡ Some (u, y) → j < k → ⊥
unfolding same_call
distinct_less xs j k t u y distinct j_is k_is less =
    let no = apart_from_distinct same_call xs j k (t, y) distinct less (slice_get_within xs k (u, y) k_is) in
    eqb-false (get_or xs j (t, y)).1 (get_or xs k (t, y)).1 no (ap (λ (x : ℕ × ℕ). x.1) (get_or_from_slice_get xs j (t, y) (t, y) j_is) ∙ sym (ap (λ (x : ℕ × ℕ). x.1) (get_or_from_slice_get xs k (u, y) (t, y) k_is)))

pub apart_sorted : (xs ys : List (ℕ × ℕ)) → IsPermutation xs ys → Apart xs → Apart ys
apart_sorted xs ys same apart j k t u y j_is k_is =
    let distinct = IsDistinct-IsPermutation same_call flips xs ys same (to_distinct xs apart) in
    elim (cases_lt j k) [
      | inl less ↦ absurd (distinct_less ys j k t u y distinct j_is k_is less)
      | inr not_less ↦ grind (arith, cases_lt, distinct_less)
    ]

-- ---- of each call of which more is known one entry

module _ (Since : ℕ → Option ℕ → Type 0) where
  -- the list has the calls so far, with their times
  pub record ListTo (list : List (ℕ × ℕ)) (upto : ℕ) : Type 0 where
    pub each : (k t y : ℕ) → slice_get list k ≡ Some (t, y) → Since y (Some t)
    pub past : (k t y : ℕ) → slice_get list k ≡ Some (t, y) → y < upto
    pub all : (y : ℕ) → y < upto → Since y None ⊎ ((k t : ℕ) × (slice_get list k ≡ Some (t, y)))
    pub apart : Apart list

  pub list_skip : (list : List (ℕ × ℕ)) (i : ℕ) → Since i None → ListTo list i → ListTo list (i + 1)
  list_skip list i none so_far = grind arith

  pub list_more : (list : List (ℕ × ℕ)) (i time : ℕ) → Since i (Some time) → ListTo list i → ListTo (list ++ (time, i) ∷ []) (i + 1)
  list_more list i time some so_far = record { each = each; past = past; all = all; apart = apart }
    where
      each : (k t y : ℕ) → slice_get (list ++ (time, i) ∷ []) k ≡ Some (t, y) → Since y (Some t)
      each k t y is = elim (pushed_at list (time, i) (t, y) k is) [
        | inl had ↦ so_far.each k t y had
        | inr last ↦ subst (λ (x : ℕ × ℕ). Since x.1 (Some x.0)) (sym last.1) some
      ]

      past : (k t y : ℕ) → slice_get (list ++ (time, i) ∷ []) k ≡ Some (t, y) → y < i + 1
      past k t y is = elim (pushed_at list (time, i) (t, y) k is) [
        | inl had ↦ let before = so_far.past k t y had in omega (arith, before)
        | inr last ↦ let same = ap (λ (x : ℕ × ℕ). x.1) last.1 in omega (arith, same)
      ]

      all : (y : ℕ) → y < i + 1 → Since y None ⊎ ((k t : ℕ) × (slice_get (list ++ (time, i) ∷ []) k ≡ Some (t, y)))
      all y below = elim (cases_lt y i) [
        | inl less ↦ elim (so_far.all y less) [ inl none ↦ inl none | inr had ↦ inr (had.0, had.1, at_pushed list (time, i) (had.1, y) had.0 had.2) ]
        | inr not_less ↦ let same : i ≡ y = omega (arith, below, not_less) in inr (length list, time, last_pushed list (time, i) ∙ ap (λ (n : ℕ). Some (time, n)) same)
      ]

      apart : Apart (list ++ (time, i) ∷ [])
      apart j k t u y j_is k_is = elim (pushed_at list (time, i) (t, y) j j_is) [
        | inl had ↦ elim (pushed_at list (time, i) (u, y) k k_is) [
          | inl other ↦ so_far.apart j k t u y had other
          | inr last ↦ let before = so_far.past j t y had in let same = ap (λ (x : ℕ × ℕ). x.1) last.1 in absurd (omega (arith, before, same))
        ]
        | inr last ↦ elim (pushed_at list (time, i) (u, y) k k_is) [
          | inl other ↦ let before = so_far.past k u y other in let same = ap (λ (x : ℕ × ℕ). x.1) last.1 in absurd (omega (arith, before, same))
          | inr too ↦ last.0 ∙ sym too.0
        ]
      ]

  -- all of them, in any order
  pub record ListOf (list : List (ℕ × ℕ)) (number : ℕ) : Type 0 where
    pub each : (k t y : ℕ) → slice_get list k ≡ Some (t, y) → Since y (Some t)
    pub all : (y : ℕ) → y < number → Since y None ⊎ ((k t : ℕ) × (slice_get list k ≡ Some (t, y)))
    pub apart : Apart list

  pub list_sorted : (list sorted : List (ℕ × ℕ)) (i number : ℕ) → number ≤ i → IsPermutation list sorted → ListTo list i → ListOf sorted number
  list_sorted list sorted i number end same so_far = let back = IsPermutation-sym list sorted same in record {
    each = λ k t y is. let had = contains_at list (t, y) (Contains-permutation sorted list (t, y) back (at_contains sorted (t, y) k is)) in so_far.each had.0 t y had.1;
    all = λ y below. elim (so_far.all y (omega (arith, below, end))) [
      | inl none ↦ inl none
      | inr had ↦ let at = contains_at sorted (had.1, y) (Contains-permutation list sorted (had.1, y) same (at_contains list (had.1, y) had.0 had.2)) in inr (at.0, had.1, at.1)
    ];
    apart = apart_sorted list sorted same so_far.apart;
  }
