-- Small orders of steps: the judge's queue answers two, and not the others.
use Rattle.std.proofs.Common.{◌≡◌, ℕ, true, false, List, [], ◌∷◌, length, refl, sym, ap, ◌∙◌, arith}
use Rattle.cc_agree.specs.SmallOrders.{SmallOrders}

off : false ≡ true → ⊥
off e = absurd (cc)

on : true ≡ false → ⊥
on e = absurd (cc)

-- a queue that holds one item after its first send holds this
one_held : (next : List ℕ) → next ≡ 7 ∷ [] → length next ≡ 1
one_held next is = ap length is

-- and the same of a queue that took its item
rest_is : (held next : List ℕ) (item : ℕ) → held ≡ 7 ∷ [] → held ≡ item ∷ next → (7 ≡ item) × ([] ≡ next)
rest_is held next item is took = let both : 7 ∷ [] ≡ item ∷ next = sym is ∙ took in (cc, cc)

pub small_orders : SmallOrders
small_orders = record {
  good = ((7 ∷ [], (refl, omega arith), (7 ∷ [], (refl, refl), ([], refl, ([], (refl, refl), tt)))), (refl, (refl, (tt, (tt, tt)))));
  ended = ((7 ∷ [], (refl, omega arith), (7 ∷ [], refl, ([], refl, ([], refl, ([], refl, ([], (refl, refl), ([], (refl, refl), tt))))))), (refl, (tt, (tt, (refl, (tt, (refl, (tt, tt))))))));
  full_too_early = λ h. omega (arith, h.0.1.1);
  full_too_late = λ h. omega (arith, h.0.2.2.1.1, ap length (rest_is h.0.0 h.0.2.0 7 h.0.1.0 h.0.2.1).1);
  full_after_a_close = λ h. on h.1.1.1.0;
  none_with_an_item = λ h. omega (arith, one_held h.0.0 h.0.1.0, ap length h.0.2.1.0);
  sent_when_full = λ h. omega (arith, one_held h.0.0 h.0.1.0, h.0.2.1.1);
  sent_after_a_close = λ h. on h.1.1.0;
  took_twice = λ h. omega (arith, ap length (rest_is h.0.0 h.0.2.0 7 h.0.1.0 h.0.2.1).1, ap length h.0.2.2.1);
  took_another = λ h. omega (arith, (rest_is h.0.0 h.0.2.0 8 h.0.1.0 h.0.2.1).0);
  ended_unclosed = λ h. off h.1.1.1.0;
  ended_with_an_item = λ h. omega (arith, one_held h.0.0 h.0.1.0, ap length (sym h.0.2.1 ∙ h.0.2.2.1.0));
}
