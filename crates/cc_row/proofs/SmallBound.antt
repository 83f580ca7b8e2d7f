-- The small row with a bound.
use Rattle.std.proofs.Common.{◌≡◌, ℕ, ◌<◌, Bool, true, false, inl, inr, refl, ap, arith}
use Rattle.cc_row.specs.Bound.{at_queues, IsSlowest, taken_before}
use Rattle.cc_row.specs.SmallBound.{before_it, SmallBound}
use Rattle.cc_row.proofs.Order.{clash}

pub none : {X : Type 0} (k : ℕ) → k < 0 → X
none {X} k less = absurd (omega (arith, less))

pub first : (f : ℕ → Bool) → f 0 ≡ true → (k : ℕ) → k < 1 → f k ≡ true
first f at k less = grind arith

pub nothing : (f : ℕ → ℕ) → f 0 ≡ 0 → IsSlowest 1 f 0
nothing f is = record { least = λ g inside. omega arith; group = 0; inside = omega arith; is = is }

pub small_bound_is : SmallBound
small_bound_is = record {
  good = (
    (
      (
        (
          (tt, omega arith, (λ k less. none k less), inl (λ g inside k less. none k less), (0, nothing _ refl, (refl, (λ is. omega (arith, is)), omega arith, refl))),
          omega arith,
          (λ k less. none k less),
          tt,
          (0, nothing _ refl, (refl, refl)),
        ),
        record { group = 0; inside = omega arith; waits = omega arith; open_still = refl },
      ),
      omega arith,
      (λ k less. none k less),
      tt,
      (0, nothing _ refl, refl),
    ),
    omega arith,
    first _ refl,
    inr (λ g inside. let z : g ≡ 0 = omega (arith, inside) in omega (arith, ap (λ (k : ℕ). taken_before 2 k (at_queues before_it)) z)),
    (0, nothing _ refl, (refl, (λ is. omega (arith, is)), omega arith, refl)),
  );
  is_narrow = λ together. clash false (together 0 (omega arith) 0 (omega arith)) refl;
  told_is = refl;
}
