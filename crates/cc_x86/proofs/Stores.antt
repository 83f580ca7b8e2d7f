-- Lists of stores that wait, tests, and states by thread.
use Rattle.std.proofs.Common.{◌≡◌, ◌≢◌, ℕ, suc, length, Bool, true, false, cond, ◌==◌, refl, ap, sym, List, [], ◌∷◌, ◌++◌, arith}
use Rattle.std.proofs.lemmas.Bool.{eqb-true, eqb-false, eq-eqb}
use Rattle.std.proofs.lemmas.List.{length-append}
use Rattle.cc_x86.specs.Program.{hold}
use Rattle.cc_x86.specs.Buffered.{Waiting, seen}
use Rattle.cc_x86.specs.Posted.{has}

pub first_false : (a b : Bool) → cond a true b ≡ false → a ≡ false
first_false a b e = grind arith

pub second_false : (a b : Bool) → cond a true b ≡ false → b ≡ false
second_false a b e = grind arith

pub contradiction : (b : Bool) → b ≡ true → b ≡ false → ⊥
contradiction b e f = cc

pub by_bool : (Q : Type 0) (b : Bool) → (b ≡ true → Q) → (b ≡ false → Q) → Q
by_bool Q b at_true at_false = grind arith

module _ {W : Type 0} (same : W → W → Bool) where
  pub seen_snoc : (xs : List (Waiting W)) (e : Waiting W) (x : W) (shared : ℕ) → seen same (xs ++ e ∷ []) x shared ≡ cond (same e.word x) e.value (seen same xs x shared)
  seen_snoc [] e x shared = refl
  seen_snoc (d ∷ xs) e x shared = seen_snoc xs e x (cond (same d.word x) d.value shared)

  pub has_snoc : (xs : List (Waiting W)) (e : Waiting W) (x : W) → has same xs x ≡ false → same e.word x ≡ false → has same (xs ++ e ∷ []) x ≡ false
  has_snoc [] e x none not = grind (arith, not)
  has_snoc (d ∷ xs) e x none not = grind (arith, has_snoc xs e x, none, not)

  pub has_front : (xs ys : List (Waiting W)) (x : W) → has same (xs ++ ys) x ≡ false → has same xs x ≡ false
  has_front [] ys x none = refl
  has_front (d ∷ xs) ys x none = grind (arith, has_front xs ys x, none)

  pub unseen : (xs : List (Waiting W)) (x : W) (shared : ℕ) → has same xs x ≡ false → seen same xs x shared ≡ shared
  unseen [] x shared none = refl
  unseen (d ∷ xs) x shared none = grind (arith, unseen xs x, none)

pub front_none : {X : Type 0} (xs ys : List X) → xs ++ ys ≡ [] → (xs ≡ []) × (ys ≡ [])
front_none [] ys e = (refl, e)
front_none (x ∷ xs) ys e = absurd (cc)

-- what holds at p, and at each other number, holds at all
pub at_hold' : (Q : Bool → Type 0) (p q : ℕ) → (p ≡ q → Q true) → (q ≢ p → Q false) → Q (p == q)
at_hold' Q p q here there = by_case (p == q) refl
  where
    by_case : (b : Bool) → (p == q) ≡ b → Q b
    by_case true e = here (eqb-true p q e)
    by_case false e = there (λ same. eqb-false p q e (sym same))

pub longer : {X : Type 0} (xs ys : List X) → length ys ≡ suc (length (xs ++ ys)) → ⊥
longer xs ys e = grind (arith, length-append, e)

pub held : {X : Type 0} (xs : ℕ → X) (p : ℕ) (x : X) → hold xs p x p ≡ x
held xs p x = ap (λ b. cond b x (xs p)) (eq-eqb p p refl)
