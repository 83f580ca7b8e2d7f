use Rattle.std.proofs.Common.{inl, inr, subst, ℕ, arith}
use Rattle.cc_judge.specs.Faults.{NotFull}
use Rattle.cc_judge.proofs.Rooms.{none_full}
use Rattle.cc_judge.proofs.Turns.{nat_cases}
use Rattle.cc_judge.proofs.room.first_not_full.Goals as goal

pub loop-place-preserved : goal.loop-place-preserved
loop-place-preserved c = λ k less rules capacity full. elim (nat_cases k c.loop-place.place) [
  | inl same ↦ c.is_not_full.ensures.not rules capacity c.if-is_not_full.false (subst (λ (n : ℕ). NotFull rules c.args.calls.now n) same full)
  | inr apart ↦ c.loop-place.invariant k (omega (arith, less, apart)) rules capacity full
]

pub returns-clause-none : goal.returns-clause-none
returns-clause-none c = λ rules capacity. none_full rules c.args.calls.now c.loop-place.place c.loop-place-test.false (λ k less. c.loop-place.invariant k less rules capacity)
