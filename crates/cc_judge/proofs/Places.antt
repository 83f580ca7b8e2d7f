-- Elements of a list, and which of two comes first.
use Rattle.std.proofs.Common.{◌≡◌, ℕ, zero, suc, ◌+◌, ◌<◌, ◌⊎◌, inl, inr, List, [], ◌∷◌, ◌++◌, length, Some, refl, sym, ap, ◌∙◌, arith}
use Rattle.std.specs.List.{slice_get}
pub use Rattle.cc_judge.specs.Faults.{In}

-- the first element is before the second
abbrev pub Before : {X : Type 0} → X → X → List X → Type 0
Before s t [] = ⊥
Before s t (x ∷ xs) = ((x ≡ s) × In t xs) ⊎ Before s t xs

pub before_first : {X : Type 0} (s t : X) (xs : List X) → Before s t xs → In s xs
before_first s t [] h = absurd h
before_first s t (x ∷ xs) (inl here) = inl here.0
before_first s t (x ∷ xs) (inr later) = inr (before_first s t xs later)

pub before_second : {X : Type 0} (s t : X) (xs : List X) → Before s t xs → In t xs
before_second s t [] h = absurd h
before_second s t (x ∷ xs) (inl here) = inr here.1
before_second s t (x ∷ xs) (inr later) = inr (before_second s t xs later)

-- of two elements that are in the list one is first, unless they are one
pub in_order : {X : Type 0} (s t : X) (xs : List X) → In s xs → In t xs → (s ≡ t) ⊎ Before s t xs ⊎ Before t s xs
in_order s t [] h k = absurd h
in_order s t (x ∷ xs) (inl a) (inl b) = inl (sym a ∙ b)
in_order s t (x ∷ xs) (inl a) (inr b) = inr (inl (inl (a, b)))
in_order s t (x ∷ xs) (inr a) (inl b) = inr (inr (inl (b, a)))
in_order s t (x ∷ xs) (inr a) (inr b) = elim (in_order s t xs a b) [
  | inl same ↦ inl same
  | inr apart ↦ elim apart [ inl first ↦ inr (inl (inr first)) | inr second ↦ inr (inr (inr second)) ]
]

-- ---- by their places

pub in_at : {X : Type 0} (s : X) (xs : List X) (k : ℕ) → slice_get xs k ≡ Some s → In s xs
in_at s [] k is = cc
in_at s (x ∷ xs) zero is = inl (cc)
in_at s (x ∷ xs) (suc k) is = inr (in_at s xs k is)

pub at_in : {X : Type 0} (s : X) (xs : List X) → In s xs → (k : ℕ) × (slice_get xs k ≡ Some s)
at_in s [] h = absurd h
at_in s (x ∷ xs) (inl here) = (0, ap Some here)
at_in s (x ∷ xs) (inr later) = let r = at_in s xs later in (suc r.0, r.1)

pub at_before : {X : Type 0} (s t : X) (xs : List X) → Before s t xs → (j k : ℕ) × (j < k) × (slice_get xs j ≡ Some s) × (slice_get xs k ≡ Some t)
at_before s t [] h = absurd h
at_before s t (x ∷ xs) (inl here) = let r = at_in t xs here.1 in (0, suc r.0, omega arith, ap Some here.0, r.1)
at_before s t (x ∷ xs) (inr later) = let r = at_before s t xs later in (suc r.0, suc r.1, omega (arith, r.2), r.3, r.4)

-- ---- the list without an element

abbrev pub without : {X : Type 0} (x : X) (xs : List X) → In x xs → List X
without x [] h = []
without x (y ∷ xs) (inl here) = xs
without x (y ∷ xs) (inr later) = y ∷ without x xs later

pub without_length : {X : Type 0} (x : X) (xs : List X) (h : In x xs) → length (without x xs h) + 1 ≡ length xs
without_length x [] h = absurd h
without_length x (y ∷ xs) (inl here) = omega arith
without_length x (y ∷ xs) (inr later) = let e = without_length x xs later in omega (arith, e)

pub from_without : {X : Type 0} (x z : X) (xs : List X) (h : In x xs) → In z (without x xs h) → In z xs
from_without x z [] h within = absurd h
from_without x z (y ∷ xs) (inl here) within = inr within
from_without x z (y ∷ xs) (inr later) (inl same) = inl same
from_without x z (y ∷ xs) (inr later) (inr more) = inr (from_without x z xs later more)

pub to_without : {X : Type 0} (x z : X) (xs : List X) (h : In x xs) → In z xs → (x ≡ z) ⊎ In z (without x xs h)
to_without x z [] h within = absurd h
to_without x z (y ∷ xs) (inl here) (inl same) = inl (sym here ∙ same)
to_without x z (y ∷ xs) (inl here) (inr more) = inr more
to_without x z (y ∷ xs) (inr later) (inl same) = inr (inl same)
to_without x z (y ∷ xs) (inr later) (inr more) = elim (to_without x z xs later more) [ inl same ↦ inl same | inr rest ↦ inr (inr rest) ]

-- ---- what is put at the end

pub in_snoc : {X : Type 0} (s y : X) (xs : List X) → In s (xs ++ y ∷ []) → In s xs ⊎ (y ≡ s)
in_snoc s y [] (inl here) = inr here
in_snoc s y [] (inr none) = absurd none
in_snoc s y (x ∷ xs) (inl here) = inl (inl here)
in_snoc s y (x ∷ xs) (inr later) = elim (in_snoc s y xs later) [ inl old ↦ inl (inr old) | inr new ↦ inr new ]

pub in_last : {X : Type 0} (y : X) (xs : List X) → In y (xs ++ y ∷ [])
in_last y [] = inl refl
in_last y (x ∷ xs) = inr (in_last y xs)

pub in_more : {X : Type 0} (s y : X) (xs : List X) → In s xs → In s (xs ++ y ∷ [])
in_more s y [] h = absurd h
in_more s y (x ∷ xs) (inl here) = inl here
in_more s y (x ∷ xs) (inr later) = inr (in_more s y xs later)

pub before_at : {X : Type 0} (s t : X) (xs : List X) (j k : ℕ) → j < k → slice_get xs j ≡ Some s → slice_get xs k ≡ Some t → Before s t xs
before_at s t [] j k less first second = cc
before_at s t (x ∷ xs) zero zero less first second = absurd (omega arith)
before_at s t (x ∷ xs) zero (suc k) less first second = inl ((cc), in_at t xs k second)
before_at s t (x ∷ xs) (suc j) zero less first second = absurd (omega arith)
before_at s t (x ∷ xs) (suc j) (suc k) less first second = inr (before_at s t xs j k (omega arith) first second)
