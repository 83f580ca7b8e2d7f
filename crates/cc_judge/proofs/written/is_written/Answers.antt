use Rattle.std.proofs.Common.{inl, inr, refl, sym, ap, ◌∙◌, subst}
use Rattle.std.specs.List.{slice_get}
use Rattle.std.proofs.lemmas.Option.{slice_get-get_or}
use Rattle.cc_judge.specs.Sweeps.{IsWrittenCall}
use Rattle.cc_judge.proofs.Turns.{below_or_at}
use Rattle.cc_judge.proofs.Listing.{some_is}
use Rattle.cc_judge.proofs.Judging.{written_all, written_one}
use Rattle.cc_judge.proofs.written.is_written.Goals as goal

pub returns-then-not-is_call-clause-others : goal.returns-then-not-is_call-clause-others
returns-then-not-is_call-clause-others c = λ is written. c.if-not-is_call.ensures.others refl (written_one c.args.calls.now c.loop-call.call-index _ (slice_get-get_or c.args.calls.now c.loop-call.call-index _ c.loop-call-test.true) written)

pub loop-call-preserved : goal.loop-call-preserved
loop-call-preserved c = λ k x below is. elim (below_or_at c.args.calls.now c.loop-call.call-index k x x below is) [
  | inl less ↦ c.loop-call.invariant k x less is
  | inr here ↦ subst IsWrittenCall (sym (some_is x _ (sym is ∙ ap (slice_get c.args.calls.now) here.0 ∙ slice_get-get_or c.args.calls.now c.loop-call.call-index _ c.loop-call-test.true))) (c.if-not-is_call.ensures.written refl)
]

pub returns-clause-written : goal.returns-clause-written
returns-clause-written c = λ is. written_all c.args.calls.now c.loop-call.call-index c.loop-call-test.false c.loop-call.invariant
