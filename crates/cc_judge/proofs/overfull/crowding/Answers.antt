use Rattle.std.proofs.Common.{inl, inr, refl, arith}
use Rattle.cc_judge.proofs.Crowding.{more_left, more_taken, only_so}
use Rattle.cc_judge.proofs.overfull.crowding.Goals as goal

pub returns-then-is_more-clause-some : goal.returns-then-is_more-clause-some
returns-then-is_more-clause-some c = λ rules calls is.
    more_taken rules calls c.args.held.now is c.args.number c.args.time _ _ (c.upto.ensures is.sent.sorted) (c.upto-2.ensures is.gone.sorted) _ (c.upto-3.ensures is.left.sorted)
    (let more = c.if-is_more.ensures.more refl in omega (arith, more, c.saturating_sub-inside.ensures))

pub returns-then-is_more-2-clause-some : goal.returns-then-is_more-2-clause-some
returns-then-is_more-2-clause-some c = λ rules calls is.
    more_left rules calls c.args.held.now is c.args.number c.args.time _ _ (c.upto.ensures is.sent.sorted) (c.upto-2.ensures is.gone.sorted) _ (c.upto-4.ensures is.waits.sorted)
    (let more = c.if-is_more-2.ensures.more refl in omega (arith, more, c.saturating_sub-inside.ensures))

pub returns-clause-none : goal.returns-clause-none
returns-clause-none c = λ rules calls is sends m.
    elim (only_so rules calls c.args.held.now is c.args.number c.args.time _ _ (c.upto.ensures is.sent.sorted) (c.upto-2.ensures is.gone.sorted) _ _ (c.upto-3.ensures is.left.sorted) (c.upto-4.ensures is.waits.sorted) sends m) [
      | inl more ↦ omega (arith, more, c.if-is_more.ensures.not refl, c.saturating_sub-inside.ensures)
      | inr more ↦ omega (arith, more, c.if-is_more-2.ensures.not refl, c.saturating_sub-inside.ensures)
    ]
