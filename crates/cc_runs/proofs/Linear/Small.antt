-- Small orders of calls: a sequential queue gives the answers of two, and not those of the others.
use Rattle.std.proofs.Common.{refl, arith}
use Rattle.std.proofs.lemmas.Option.{none-some}
use Rattle.std.proofs.lemmas.Bool.{false≢true, true≢false}
use Rattle.cc_runs.specs.SmallOrders.{SmallOrders}

pub small_orders : SmallOrders
small_orders = record {
  good = ((((tt, tt, (omega arith, omega arith), (refl, (λ e. cc), omega arith, refl)), tt, (omega arith, omega arith), (refl, (λ e. cc), refl)), omega arith, (omega arith, omega arith, refl), refl), omega arith, (omega arith, omega arith, refl), (refl, refl));
  ended = (((((tt, tt, (omega arith, omega arith), (refl, (λ e. cc), omega arith, refl)), tt, (omega arith, omega arith), (refl, refl)), omega arith, (omega arith, omega arith, refl), refl), tt, (omega arith, omega arith), refl), omega arith, (omega arith, omega arith, refl), (refl, refl, refl));
  full_too_early = λ h. omega (arith, h.0.3.2);
  full_too_late = λ h. omega (arith, h.3.2);
  empty_with_an_item = λ h. omega (arith, h.3.1);
  empty_after_shut = λ h. true≢false h.3.0;
  accepted_when_full = λ h. omega (arith, h.3.2);
  accepted_after_shut = λ h. true≢false h.3.0;
  got_twice = λ h. none-some _ h.3;
  ended_unshut = λ h. false≢true h.3.0;
}
