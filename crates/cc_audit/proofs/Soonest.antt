-- The least of places that come one after another.
use Rattle.std.proofs.Common.{◌≡◌, ℕ, ◌<◌, ◌≤◌, ◌⊎◌, inl, inr, Bool, true, false, cond, Option, Some, None, IfSome, IsSomeAnd, nat_lt, sym, subst, arith}
use Rattle.std.proofs.lemmas.Bool.{cases_lt, ltb-true, ltb-false}
use Rattle.cc_audit.specs.Least.{IsLeast, IsLeastUnless, sooner_of}

-- a place that is at most q was found
abbrev pub AtMost : Option ℕ → ℕ → Type 0
AtMost r q = IsSomeAnd r (λ p. p ≤ q)

-- ---- the lesser of two

lesser : (x y : ℕ) → (cond (nat_lt y x) y x ≤ x) × (cond (nat_lt y x) y x ≤ y) × ((cond (nat_lt y x) y x ≡ x) ⊎ (cond (nat_lt y x) y x ≡ y))
lesser x y = by_test (nat_lt y x) (λ t. ltb-true y x t) (λ t. ltb-false y x t)
  where
    by_test : (b : Bool) → (b ≡ true → y < x) → (b ≡ false → x ≤ y) → (cond b y x ≤ x) × (cond b y x ≤ y) × ((cond b y x ≡ x) ⊎ (cond b y x ≡ y))
    by_test b under over = grind arith

pub at_most_left : (a b : Option ℕ) (q : ℕ) → AtMost a q → AtMost (sooner_of a b) q
at_most_left None b q h = absurd h
at_most_left (Some x) None q h = h
at_most_left (Some x) (Some y) q h = omega (arith, (lesser x y).0, h)

pub at_most_right : (a b : Option ℕ) (q : ℕ) → AtMost b q → AtMost (sooner_of a b) q
at_most_right None b q h = h
at_most_right (Some x) None q h = absurd h
at_most_right (Some x) (Some y) q h = omega (arith, (lesser x y).1, h)

pub found_sooner : (P : ℕ → Type 0) (a b : Option ℕ) → IfSome a P → IfSome b P → IfSome (sooner_of a b) P
found_sooner P None b h k = k
found_sooner P (Some x) None h k = h
found_sooner P (Some x) (Some y) h k = elim ((lesser x y).2) [ inl is ↦ subst P (sym is) h | inr is ↦ subst P (sym is) k ]

-- ---- what was found is the least

pub least_of : (P : ℕ → Type 0) (r : Option ℕ) → IfSome r P → ((q : ℕ) → P q → AtMost r q) → IsLeast P r
least_of P r found each = grind arith

pub unless_of : (P M : ℕ → Type 0) (r : Option ℕ) → IfSome r (λ p. P p ⊎ M p) → ((q : ℕ) → P q → M q ⊎ AtMost r q) → IsLeastUnless P M r
unless_of P M None found each = λ q h. elim (each q h) [ inl masked ↦ masked | inr no_place ↦ absurd no_place ]
unless_of P M (Some p) found each = (found, λ q below h. elim (each q h) [ inl masked ↦ masked | inr past ↦ absurd (omega (arith, past)) ])

pub found_of : (P : ℕ → Type 0) (r : Option ℕ) → IsLeast P r → IfSome r P
found_of P r least = grind arith

pub each_of : (P : ℕ → Type 0) (r : Option ℕ) → IsLeast P r → (q : ℕ) → P q → AtMost r q
each_of P None least q h = least q h
each_of P (Some p) least q h = elim (cases_lt q p) [ inl below ↦ absurd (least.1 q below h) | inr past ↦ past ]

-- the least place at which one of two facts holds
pub least_either : (P Q : ℕ → Type 0) (a b : Option ℕ) → IsLeast P a → IsLeast Q b → IsLeast (λ p. P p ⊎ Q p) (sooner_of a b)
least_either P Q a b left right = least_of (λ p. P p ⊎ Q p) (sooner_of a b)
    (found_sooner (λ p. P p ⊎ Q p) a b (widen_left a (found_of P a left)) (widen_right b (found_of Q b right)))
    (λ q h. elim h [ inl here ↦ at_most_left a b q (each_of P a left q here) | inr here ↦ at_most_right a b q (each_of Q b right q here) ])
  where
    widen_left : (r : Option ℕ) → IfSome r P → IfSome r (λ p. P p ⊎ Q p)
    widen_left r h = grind arith

    widen_right : (r : Option ℕ) → IfSome r Q → IfSome r (λ p. P p ⊎ Q p)
    widen_right r h = grind arith

-- two facts that hold at the same places
pub least_same : (P Q : ℕ → Type 0) (r : Option ℕ) → ((p : ℕ) → P p → Q p) → ((p : ℕ) → Q p → P p) → IsLeast P r → IsLeast Q r
least_same P Q r there back least = grind arith
