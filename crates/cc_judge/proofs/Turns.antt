-- An element of a list that is read at an index, one turn of a loop further.
use Rattle.std.proofs.Common.{◌≡◌, ◌≢◌, ℕ, zero, suc, ◌+◌, ◌<◌, ◌⊎◌, inl, inr, List, [], ◌∷◌, length, get_or, Some, refl, sym, ap, ◌∙◌, arith}
use Rattle.std.specs.List.{slice_get, slice_set}
use Rattle.std.proofs.lemmas.Bool.{cases_lt}
use Rattle.std.proofs.lemmas.Option.{get_or_from_slice_get, slice_get_cases}

pub nat_cases : (a b : ℕ) → (a ≡ b) ⊎ (a ≢ b)
nat_cases a b = grind arith

pub less_or : (k i : ℕ) → k < i + 1 → (k < i) ⊎ (k ≡ i)
less_or k i below = elim (cases_lt k i) [ inl less ↦ inl less | inr not_less ↦ inr (omega (arith, below, not_less)) ]

-- the one element at a place
pub one_at : {X : Type 0} (xs : List X) (k : ℕ) (x y : X) → slice_get xs k ≡ Some x → slice_get xs k ≡ Some y → x ≡ y
one_at xs k x y one other = cc (sym one ∙ other)

pub slice_has : {X : Type 0} (xs : List X) (k : ℕ) → k < length xs → (x : X) × (slice_get xs k ≡ Some x)
slice_has xs k less = grind (arith, slice_get_cases xs k)

-- of the elements below i + 1 each is below i, or the one at i
pub below_or_at : {X : Type 0} (xs : List X) (i k : ℕ) (d x : X) → k < i + 1 → slice_get xs k ≡ Some x → (k < i) ⊎ ((k ≡ i) × (x ≡ get_or xs i d))
below_or_at xs i k d x below is = grind (arith, cases_lt, get_or_from_slice_get)

-- ---- marks

pub set_at : {X : Type 0} (xs : List X) (p : ℕ) (x y : X) → slice_get xs p ≡ Some x → slice_get (slice_set xs p y) p ≡ Some y
set_at [] p x y is = cc
set_at (z ∷ xs) zero x y is = refl
set_at (z ∷ xs) (suc p) x y is = set_at xs p x y is

pub set_elsewhere : {X : Type 0} (xs : List X) (p q : ℕ) (y : X) → q ≢ p → slice_get (slice_set xs p y) q ≡ slice_get xs q
set_elsewhere [] p q y apart = refl
set_elsewhere (z ∷ xs) zero zero y apart = absurd (apart refl)
set_elsewhere (z ∷ xs) zero (suc q) y apart = refl
set_elsewhere (z ∷ xs) (suc p) zero y apart = refl
set_elsewhere (z ∷ xs) (suc p) (suc q) y apart = set_elsewhere xs p q y (λ same. apart (ap suc same))
