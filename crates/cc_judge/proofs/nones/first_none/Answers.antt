use Rattle.std.proofs.Common.{refl}
use Rattle.cc_judge.specs.Names.{Act}
use Rattle.cc_judge.specs.Sweeps.{MayBeEmpty}
use Rattle.cc_judge.proofs.Judging.{one_more, within, within_none}
use Rattle.cc_judge.proofs.nones.first_none.Goals as goal

pub loop-place-preserved : goal.loop-place-preserved
loop-place-preserved c = λ log l at. one_more (λ k. MayBeEmpty log c.args.calls.now k) c.loop-place.place (c.loop-place.invariant log l at) (record { moment = c.if-is_never_empty.ensures.others refl log l; ended = c.if-ended_with_items.ensures.others refl log l at })

pub returns-clause-none : goal.returns-clause-none
returns-clause-none c = λ log l at place. record {
  moment = λ begin end none. (c.loop-place.invariant log l at place (within_none c.args.calls.now c.loop-place.place place begin end c.loop-place-test.false none)).moment begin end none;
  ended = λ judged end d ends. (c.loop-place.invariant log l at place (within c.args.calls.now Act.Ended c.loop-place.place place c.loop-place-test.false d)).ended judged end d ends;
}
