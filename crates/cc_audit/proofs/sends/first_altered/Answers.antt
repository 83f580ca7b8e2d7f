use Rattle.std.proofs.Common.{arith}
use Rattle.std.proofs.lemmas.Bool.{OnTrue_at, OnFalse_at}
use Rattle.cc_audit.specs.Least.{referred}
use Rattle.cc_audit.proofs.Sought.{seen_more, seen_same}
use Rattle.cc_audit.proofs.sends.first_altered.Goals as goal
use Rattle.cc_audit.proofs.sends.first_altered.Goals.{then-is_altered, else-is_altered}

pub loop-take-preserved : goal.loop-take-preserved
loop-take-preserved c = elim c.if-is_altered.branch [
  | then-is_altered w ↦ rw (w.first-is, w.sooner-first.ensures) (seen_more (referred c.args.sends.now) c.args.takes.now c.loop-take.take-index c.loop-take.first _ (omega arith) c.loop-take.invariant (OnTrue_at w.if-is_altered.true c.is_altered.ensures.altered))
  | else-is_altered w ↦ rw w.first-is (seen_same (referred c.args.sends.now) c.args.takes.now c.loop-take.take-index c.loop-take.first _ (omega arith) c.loop-take.invariant (OnFalse_at w.if-is_altered.false c.is_altered.ensures.same))
]
