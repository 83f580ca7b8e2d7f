-- The small row.
use Rattle.std.proofs.Common.{◌≡◌, ℕ, suc, Bool, true, refl, ap, ◌∙◌, arith}
use Rattle.cc_row.specs.SmallRows.{SmallRows}

-- of the first queue, and of the second
first : {X : Type 0} (k : ℕ) → suc k ≡ 0 → X
first {X} k is = absurd (omega (arith, is))

second : (f : ℕ → Bool) → f 0 ≡ true → (k : ℕ) → suc k ≡ 1 → f k ≡ true
second f at k is = let zeroth : k ≡ 0 = omega (arith, is) in ap f zeroth ∙ at

pub small_rows : SmallRows
small_rows = record {
  good = (
    (
      (
        (
          (
            (
              (
                ((tt, omega arith, (λ k is. first k is), (0, (refl, (λ is. omega (arith, is)), omega arith, refl))), omega arith, (λ k is. first k is), (0, (refl, (λ is. omega (arith, is)), refl))),
                omega arith,
                (λ k is. first k is),
                (0, (refl, refl)),
              ),
              omega arith,
              second _ refl,
              (0, (refl, (λ is. omega (arith, is)), omega arith, refl)),
            ),
            omega arith,
            (λ k is. first k is),
            (0, refl),
          ),
          omega arith,
          (λ k is. first k is),
          (0, (refl, refl, refl)),
        ),
        omega arith,
        second _ refl,
        (0, refl),
      ),
      omega arith,
      second _ refl,
      (0, (refl, refl)),
    ),
    omega arith,
    second _ refl,
    (0, (refl, refl, refl)),
  );
  reported = refl;
}
