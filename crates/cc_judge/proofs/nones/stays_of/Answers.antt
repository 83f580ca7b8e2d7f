use Rattle.std.proofs.Common.{sym, subst}
use Rattle.cc_judge.specs.Verdict.{AreStays}
use Rattle.cc_judge.proofs.Judging.{first_stays, stays_more}
use Rattle.cc_judge.proofs.nones.stays_of.Goals as goal
use Rattle.cc_judge.proofs.nones.stays_of.Goals.{else-loop-test, then-loop-test+in_ok-stay-2+in_ok-push-2+in_default-next_from}

pub loop-preserved : goal.loop-preserved
loop-preserved c = λ log l. subst (AreStays c.args.calls.now) (sym c.in_ok-push-2.ensures.items) (stays_more c.args.calls.now c.loop.stays.items _ (c.in_ok-stay-2.ensures log l) (c.loop.invariant log l))

pub returns : goal.returns
returns c = λ log l.
    elim c.loop-test.branch [
      | else-loop-test w ↦ rw w.stays-is (c.loop.invariant log l)
      | then-loop-test+in_ok-stay-2+in_ok-push-2+in_default-next_from w ↦ rw w.stays-is (subst (AreStays c.args.calls.now) (sym w.in_ok-push-2.ensures.items) (stays_more c.args.calls.now c.loop.stays.items _ (w.in_ok-stay-2.ensures log l) (c.loop.invariant log l)))
    ]

pub returns-then-is_some : goal.returns-then-is_some
returns-then-is_some c = λ log l.
    let calls = c.args.calls.now in
    let none : AreStays calls c.new-stays.result.items = rw c.new-stays.ensures.items (first_stays calls) in
    subst (AreStays calls) (sym c.in_ok-push.ensures.items) (stays_more calls c.new-stays.result.items _ (c.in_ok-stay.ensures log l) none)
