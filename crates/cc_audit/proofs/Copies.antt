-- The facts that a copy of a list in another order, or of one number of each element, shows of the
-- list.
use Rattle.std.proofs.Common.{◌≡◌, ℕ, ◌+◌, ◌<◌, ◌==◌, List, [], ◌∷◌, length, map, Bool, cond, get_or, count_by, sum_by, Any, Contains, IsPermutation, refl, sym, ap, ◌∙◌, subst, arith}
use Rattle.std.proofs.lemmas.List.{length-map, get_or-map, get_or_default}
use Rattle.std.proofs.lemmas.List.Sums.{sum_by-cons}
use Rattle.std.proofs.lemmas.List.Sorted.{IsPermutation-sym, Contains-permutation, sum_by-IsPermutation}

pub any_permuted : {X : Type 0} (P : X → Type 0) (xs ys : List X) → IsPermutation xs ys → Any P xs → Any P ys
any_permuted P xs ys same h =
    let there = Contains-permutation xs ys h.1 same (h.0, h.2, h.3) in (there.0, h.1, there.1, there.2, h.4)

pub any_back : {X : Type 0} (P : X → Type 0) (xs ys : List X) → IsPermutation xs ys → Any P ys → Any P xs
any_back P xs ys same = any_permuted P ys xs (IsPermutation-sym xs ys same)

pub any_weaker : {X : Type 0} (P Q : X → Type 0) (xs : List X) → ((x : X) → P x → Q x) → Any P xs → Any Q xs
any_weaker P Q xs weaker h = (h.0, h.1, h.2, h.3, weaker h.1 h.4)

pub count_permuted : {X : Type 0} (p : X → Bool) (xs ys : List X) → IsPermutation xs ys → count_by p ys ≡ count_by p xs
count_permuted p xs ys same = sum_by-IsPermutation (λ x. cond (p x) 1 0) xs ys same

-- ---- one number of each element

sum_by-map : {X : Type 0} (f : X → ℕ) (g : ℕ → ℕ) (xs : List X) → sum_by g (map f xs) ≡ sum_by (λ x. g (f x)) xs
sum_by-map f g [] = refl
sum_by-map f g (x ∷ xs) = sum_by-cons g (f x) (map f xs) ∙ ap (λ (n : ℕ). g (f x) + n) (sum_by-map f g xs) ∙ sym (sum_by-cons (λ y. g (f y)) x xs)

contains_map : {X : Type 0} (f : X → ℕ) (xs : List X) (p : ℕ) → Any (λ x. f x ≡ p) xs → Contains (map f xs) p
contains_map f xs p h = (h.0, simp length-map h.2, get_or-map f xs h.0 h.1 p h.2 ∙ ap f h.3 ∙ h.4)

any_mapped : {X : Type 0} (P : ℕ → Type 0) (f : X → ℕ) (xs : List X) (d : X) (p : ℕ) → Contains (map f xs) p → P p → Any (λ x. P (f x)) xs
any_mapped P f xs d p h holds =
    let l : h.0 < length xs = simp length-map at h.1 in
    let here : f (get_or xs h.0 d) ≡ p = sym (get_or-map f xs h.0 d p l) ∙ h.2 in
    (h.0, get_or xs h.0 d, l, get_or_default xs h.0 _ d l, subst P (sym here) holds)

-- an element of a list that isn't empty
some_element : {X : Type 0} (f : X → ℕ) (xs : List X) (p : ℕ) → Contains (map f xs) p → X
some_element f [] p h = absurd (omega (arith, h.1))
some_element f (x ∷ xs) p h = x

module _ {X : Type 0} (f : X → ℕ) (xs : List X) (ys : List ℕ) (same : IsPermutation (map f xs) ys) where
  pub listed : (p : ℕ) → Any (λ x. f x ≡ p) xs → Contains ys p
  listed p h = Contains-permutation (map f xs) ys p same (contains_map f xs p h)

  pub any_unlisted : (P : ℕ → Type 0) (p : ℕ) → Contains ys p → P p → Any (λ x. P (f x)) xs
  any_unlisted P p h =
      let there : Contains (map f xs) p = Contains-permutation ys (map f xs) p (IsPermutation-sym (map f xs) ys same) h in
      any_mapped P f xs (some_element f xs p there) p there

  pub unlisted : (p : ℕ) → Contains ys p → Any (λ x. f x ≡ p) xs
  unlisted p h = any_unlisted (λ q. q ≡ p) p h refl

  pub any_listed : (P : ℕ → Type 0) → Any (λ x. P (f x)) xs → Any P ys
  any_listed P h = let there = listed (f h.1) (h.0, h.1, h.2, h.3, refl) in (there.0, f h.1, there.1, there.2, h.4)

  pub count_listed : (p : ℕ) → count_by (λ y. y == p) ys ≡ count_by (λ x. f x == p) xs
  count_listed p = count_permuted (λ y. y == p) (map f xs) ys same ∙ sum_by-map f (λ y. cond (y == p) 1 0) xs
