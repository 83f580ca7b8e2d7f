-- Each wrong row has a small order from which it isn't one queue.
use Rattle.std.proofs.Common.{◌≡◌, Some, refl, ap, arith}
use Rattle.cc_row.specs.Names.{Item}
use Rattle.cc_row.specs.SmallRows.{narrow, item}
use Rattle.cc_row.specs.WrongRows.{wide, unclosed, early, ahead, ended, WrongRows}
use Rattle.cc_row.proofs.Law.{rows_are_queues}
use Rattle.cc_row.proofs.SmallBound.{none, first}

unlike : (x y : Item) → Some x ≡ Some y → x.place ≡ y.place
unlike x y is = let same : x ≡ y = cc in ap (λ (z : Item). z.place) same

pub wrong_rows : WrongRows
wrong_rows = record {
  right = rows_are_queues;
  unclosed_is_none = λ law.
      let one = law (λ q. narrow) wide 1 unclosed (
        (
          (
            (tt, omega arith, (λ k less. none k less), (0, (refl, refl))),
            omega arith,
            tt,
            (0, (refl, (λ is. omega (arith, is)), omega arith, refl)),
          ),
          omega arith,
          tt,
          (0, (refl, (λ is. omega (arith, is)), omega arith, refl)),
        ),
        omega arith,
        first _ refl,
        (0, refl),
      ) (omega arith) (omega arith) in
      absurd (omega (arith, unlike (item 0 1) (item 1 2) one.3.1));
  early_is_none = λ law.
      let one = law (λ q. narrow) wide 1 early (
        (tt, omega arith, tt, (0, (refl, (λ is. omega (arith, is)), omega arith, refl))),
        omega arith,
        (λ k less. none k less),
        (0, (refl, refl)),
      ) (omega arith) (omega arith) in
      absurd (omega (arith, one.3.1.1));
  ahead_is_none = λ law.
      let one = law (λ q. narrow) wide 1 ahead (
        (
          (
            (tt, omega arith, (λ k less. none k less), (0, (refl, (λ is. omega (arith, is)), omega arith, refl))),
            omega arith,
            (λ k less. none k less),
            (0, (refl, refl)),
          ),
          omega arith,
          first _ refl,
          (0, (refl, (λ is. omega (arith, is)), omega arith, refl)),
        ),
        omega arith,
        tt,
        (0, refl),
      ) (omega arith) (omega arith) in
      absurd (omega (arith, unlike (item 0 1) (item 1 3) one.3.1));
  early_ends_are_none = λ law.
      let one = law (λ q. narrow) wide 0 1 ended (omega arith) (
        (
          (tt, omega arith, (λ k less. none k less), (0, (refl, refl))),
          omega arith,
          first _ refl,
          (0, (refl, (λ is. omega (arith, is)), omega arith, refl)),
        ),
        omega arith,
        (λ k less. none k less),
        (0, (refl, refl, refl)),
      ) (omega arith) (omega arith) in
      absurd (omega (arith, one.3.1.1));
}
