-- A small run, in which a send waits.
use Rattle.std.proofs.Common.{refl, arith}
use Rattle.cc_runs.specs.SmallWaits.{SmallWaits}

pub small_waits : SmallWaits
small_waits = record {
  run = ((((((((((((((tt, (omega arith, refl, tt, omega arith, omega arith)), (omega arith, λ e. cc)), (omega arith, λ e. cc)), (omega arith, λ e. cc)), (omega arith, refl, tt, omega arith, omega arith)), (omega arith, λ e. cc)), (omega arith, λ e. cc)), (omega arith, λ e. cc)), (omega arith, λ e. cc)), (omega arith, λ e. cc)), (omega arith, λ e. cc)), (omega arith, λ e. cc)), (omega arith, λ e. cc)), (omega arith, λ e. cc));
  in_call = refl;
  many = refl;
  fewer = refl;
  waits = (refl, refl);
  turn = (refl, omega arith);
  not_its = λ turn. absurd (omega (arith, turn.0));
  one_less = refl;
}
