-- Each wrong rule of the bound lets two items into a row of one place; and Full isn't an answer of a queue that is closed.
use Rattle.std.proofs.Common.{◌∷◌, inr, refl, arith}
use Rattle.cc_row.specs.SmallRows.{body, narrow}
use Rattle.cc_row.specs.Bound.{RowCall, IsQueue, told}
use Rattle.cc_row.specs.WrongBounds.{crowded, closed, WrongBounds}
use Rattle.cc_row.proofs.Bound.{bounded_rows}
use Rattle.cc_row.proofs.SmallBound.{none, first, nothing}

too_many : IsQueue narrow 1 (told 1 crowded) → ⊥
too_many q = omega (arith, q.2.2.2, q.2.1.least 0 (omega arith))

late_full : IsQueue narrow 1 (told 0 (RowCall.Refused 1 2 body ∷ closed)) → ⊥
late_full q = absurd (cc q.2.2.0)

pub wrong_bounds : WrongBounds
wrong_bounds = record {
  right = λ cfg one groups last order even row life. (bounded_rows cfg one groups last order even row life).0;
  all_is_none = λ law.
      too_many (law (λ q. narrow) narrow 1 1 crowded (λ q. refl) (
        (
          (tt, omega arith, (λ k less. none k less), tt, (0, nothing _ refl, (refl, (λ is. omega (arith, is)), omega arith, refl))),
          omega arith,
          (λ k less. none k less),
          tt,
          (0, nothing _ refl, (refl, refl)),
        ),
        omega arith,
        first _ refl,
        tt,
        (0, nothing _ refl, (refl, (λ is. omega (arith, is)), omega arith, refl)),
      ) (omega arith));
  last_is_none = λ law.
      too_many (law (λ q. narrow) narrow 1 1 crowded (λ q. refl) (
        (
          (tt, omega arith, (λ k less. none k less), inr (λ g inside. omega arith), (0, nothing _ refl, (refl, (λ is. omega (arith, is)), omega arith, refl))),
          omega arith,
          (λ k less. none k less),
          tt,
          (0, nothing _ refl, (refl, refl)),
        ),
        omega arith,
        first _ refl,
        inr (λ g inside. omega arith),
        (0, nothing _ refl, (refl, (λ is. omega (arith, is)), omega arith, refl)),
      ) (omega arith));
  looks_fit = λ cfg one groups last order sender number body even row full life. (bounded_rows cfg one groups last (RowCall.Refused sender number body ∷ order) even (row, full) life).0;
  closed_is_none = λ law.
      late_full (law (λ q. narrow) narrow 1 0 closed 1 2 body (λ q. refl) (
        (tt, omega arith, (λ k less. none k less), inr (λ g inside. omega arith), (0, nothing _ refl, (refl, (λ is. omega (arith, is)), omega arith, refl))),
        omega arith,
        (λ k less. none k less),
        tt,
        (0, nothing _ refl, (refl, refl)),
      ) record { group = 0; inside = omega arith; waits = omega arith } (omega arith));
}
