-- A function with one value changed.
use Rattle.std.proofs.lemmas.List.{get_or_append_left, get_or_past}
use Rattle.std.proofs.Common.{List, [], ◌∷◌, ◌++◌, ◌∙◌, length, length-append, get_or, inl, inr, arith, ◌≡◌, ◌≢◌, ℕ, ◌==◌, Bool, true, false, cond, refl, ap, sym, subst}
use Rattle.std.proofs.lemmas.Bool.{cases_lt, eq-eqb, ne_eqb, eqb-true, eqb-false}

pub changed : {X : Type 0} → (ℕ → X) → ℕ → X → ℕ → X
changed f k now x = cond (x == k) now (f x)

pub changed_here : {X : Type 0} (f : ℕ → X) (k : ℕ) (now : X) (x : ℕ) → x ≡ k → changed f k now x ≡ now
unfolding changed
changed_here f k now x e = ap (λ (b : Bool). cond b now (f x)) (eq-eqb x k e)

pub changed_away : {X : Type 0} (f : ℕ → X) (k : ℕ) (now : X) (x : ℕ) → x ≢ k → changed f k now x ≡ f x
unfolding changed
changed_away f k now x ne = ap (λ (b : Bool). cond b now (f x)) (ne_eqb x k ne)

-- what holds of that value and of the others holds of all
pub changed_all : {X : Type 0} (P : ℕ → X → Type 0) (f : ℕ → X) (k : ℕ) (now : X) → P k now → ((x : ℕ) → x ≢ k → P x (f x)) → (x : ℕ) → P x (changed f k now x)
unfolding changed
changed_all {X} P f k now here others x = by_case (x == k) refl
  where
    by_case : (b : Bool) → (x == k) ≡ b → P x (cond b now (f x))
    by_case true same = subst (λ (j : ℕ). P j now) (sym (eqb-true x k same)) here
    by_case false other = others x (eqb-false x k other)

-- a list with one more keeps the rest
pub get_or_away : {X : Type 0} (xs : List X) (x : X) (i : ℕ) (d : X) → i ≢ length xs → get_or (xs ++ x ∷ []) i d ≡ get_or xs i d
get_or_away {X} xs x i d ne = elim (cases_lt i (length xs)) [
  | inl low ↦ get_or_append_left xs (x ∷ []) d i low
  | inr high ↦ get_or_past (xs ++ x ∷ []) i d (omega (arith, length-append xs (x ∷ []), high, ne)) ∙ sym (get_or_past xs i d high)
]
