use Rattle.std.proofs.Common.{◌-◌, ◌*◌, ◌+◌, ◌^◌, get_or, arith}
use Rattle.cc_plan.proofs.Digits.{fold_turn, cut_more}
use Rattle.cc_plan.proofs.plan.name.numbered.Goals as goal

pub loop-digit-preserved : goal.loop-digit-preserved
loop-digit-preserved c =
    let before = c.loop-digit.invariant in
    let digits = c.args.digits.now in
    let i = c.loop-digit.digit-index in (
      before.0 * 10 + (get_or digits i 0 - 48),
      cut_more before.0 c.loop-digit.n c.saturating_mul.result (get_or digits i 0 - 48) c.saturating_add-n.result (2 ^ 32 - 1) before.1 c.saturating_mul.ensures (omega (arith, c.saturating_add-n.ensures, c.from.ensures, c.saturating_sub.ensures)),
      fold_turn before.0 digits i _ (omega arith) before.2,
    )
