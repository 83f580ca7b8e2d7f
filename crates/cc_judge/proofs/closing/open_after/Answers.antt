use Rattle.std.proofs.Common.{refl}
use Rattle.cc_judge.specs.Faults.{WasOpen, BeganAfter}
use Rattle.cc_judge.proofs.Judging.{one_more, within_open}
use Rattle.cc_judge.proofs.closing.open_after.Goals as goal
use Rattle.cc_judge.proofs.closing.open_after.Goals.{else-began_after-via-then-began_after+else-was_open, else-began_after-via-else-began_after}

pub loop-send-preserved : goal.loop-send-preserved
loop-send-preserved c = one_more (λ k. WasOpen c.args.calls.now k → BeganAfter c.args.calls.now k c.args.time → ⊥) c.loop-send.send c.loop-send.invariant (λ was after.
    elim c.else-began_after.branch [
      | else-began_after-via-then-began_after+else-was_open w ↦ w.if-was_open.ensures.others refl was
      | else-began_after-via-else-began_after w ↦ w.if-began_after.ensures.others refl after
    ])

pub returns-clause-none : goal.returns-clause-none
returns-clause-none c = λ p was after. c.loop-send.invariant p (within_open c.args.calls.now c.loop-send.send p c.args.time c.loop-send-test.false after) was after
