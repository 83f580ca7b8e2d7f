-- Two elements of a list that pass a test, and a count of at least two.
use Rattle.std.proofs.Common.{◌≡◌, ℕ, suc, ◌+◌, ◌<◌, ◌≤◌, List, [], ◌∷◌, length, Bool, true, false, cond, get_or, take, drop, count_by, refl, ap, add-zero, ◌∙◌, arith, length-take, length-drop, get_or-take, get_or-drop}
use Rattle.std.proofs.lemmas.List.Sums.{sum_by-cons, sum_by-take-drop, get_or-le-sum_by}

one-true : (b : Bool) → b ≡ true → cond {A = ℕ} b 1 0 ≡ 1
one-true b h = rw h

counted : {X : Type 0} (p : X → Bool) (xs : List X) (a : ℕ) (d : X) → a < length xs → p (get_or xs a d) ≡ true → 1 ≤ count_by p xs
counted p xs a d l h = omega (arith, get_or-le-sum_by (λ x. cond (p x) 1 0) xs a d l, one-true (p (get_or xs a d)) h)

pub count_of_two : {X : Type 0} (p : X → Bool) (xs : List X) (a b : ℕ) (d : X) → a < b → b < length xs → p (get_or xs a d) ≡ true → p (get_or xs b d) ≡ true → 2 ≤ count_by p xs
count_of_two p xs a b d lt l at_a at_b =
    let front : 1 ≤ count_by p (take b xs) = counted p (take b xs) a d (simp length-take (omega arith)) (rw get_or-take at_a) in
    let back : 1 ≤ count_by p (drop b xs) = counted p (drop b xs) 0 d (simp length-drop (omega arith)) (simp (get_or-drop, add-zero) at_b) in
    omega (arith, sum_by-take-drop (λ x. cond (p x) 1 0) xs b)

-- an element that passes
pub record One {X : Type 0} (p : X → Bool) (xs : List X) : Type 0 where
  pub at : ℕ
  pub below : at < length xs
  pub passes : (d : X) → p (get_or xs at d) ≡ true

-- two elements that do
pub record Two {X : Type 0} (p : X → Bool) (xs : List X) : Type 0 where
  pub first : ℕ
  pub second : ℕ
  pub order : first < second
  pub below : second < length xs
  pub first_passes : (d : X) → p (get_or xs first d) ≡ true
  pub second_passes : (d : X) → p (get_or xs second d) ≡ true

counted_rest : {X : Type 0} (p : X → Bool) (x : X) (xs : List X) (b : Bool) → p x ≡ b → count_by p (x ∷ xs) ≡ cond b 1 0 + count_by p xs
counted_rest {X} p x xs b is = sum_by-cons (λ (y : X). cond (p y) 1 0) x xs ∙ ap (λ (v : Bool). cond {A = ℕ} v 1 0 + count_by p xs) is

one_by : {X : Type 0} (p : X → Bool) (x : X) (xs : List X) → (1 ≤ count_by p xs → One p xs) → 1 ≤ count_by p (x ∷ xs) → (b : Bool) → p x ≡ b → One p (x ∷ xs)
one_by p x xs later h true is = record { at = 0; below = omega arith; passes = λ d. is }
one_by {X} p x xs later h false is =
    let rest : One p xs = later (omega (arith, counted_rest p x xs false is)) in
    record { at = suc rest.at; below = omega (arith, rest.below); passes = rest.passes }

pub one_of_count : {X : Type 0} (p : X → Bool) (xs : List X) → 1 ≤ count_by p xs → One p xs
one_of_count p [] h = absurd (omega arith)
one_of_count p (x ∷ xs) h = one_by p x xs (one_of_count p xs) h (p x) refl

two_by : {X : Type 0} (p : X → Bool) (x : X) (xs : List X) → (2 ≤ count_by p xs → Two p xs) → 2 ≤ count_by p (x ∷ xs) → (b : Bool) → p x ≡ b → Two p (x ∷ xs)
two_by p x xs later h true is =
    let rest : One p xs = one_of_count p xs (omega (arith, counted_rest p x xs true is)) in
    record { first = 0; second = suc rest.at; order = omega arith; below = omega (arith, rest.below); first_passes = λ d. is; second_passes = rest.passes }
two_by p x xs later h false is =
    let rest : Two p xs = later (omega (arith, counted_rest p x xs false is)) in
    record { first = suc rest.first; second = suc rest.second; order = omega (arith, rest.order); below = omega (arith, rest.below); first_passes = rest.first_passes; second_passes = rest.second_passes }

pub two_of_count : {X : Type 0} (p : X → Bool) (xs : List X) → 2 ≤ count_by p xs → Two p xs
two_of_count p [] h = absurd (omega arith)
two_of_count p (x ∷ xs) h = two_by p x xs (two_of_count p xs) h (p x) refl
