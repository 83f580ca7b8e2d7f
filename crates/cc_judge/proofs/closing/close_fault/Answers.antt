use Rattle.std.proofs.Common.{ℕ}
use Rattle.cc_judge.specs.Names.{Act}
use Rattle.cc_judge.specs.Faults.{Did, BeganBy, BeganAfter}
use Rattle.cc_judge.proofs.Judging.{closed_early_so, keeps_shut, keeps_unshut, when_none, when_both}
use Rattle.cc_judge.proofs.closing.close_fault.Goals as goal

pub returns-in_err-call-clause-none : goal.returns-in_err-call-clause-none
returns-in_err-call-clause-none c = rw c.from_residual.ensures (λ log shut. keeps_unshut log c.args.calls.now (rw c.in_err-call.was at shut))

pub returns-then-is_none-clause-some : goal.returns-then-is_none-clause-some
returns-then-is_none-clause-some c = λ log shut. closed_early_so log c.args.calls.now c.in_ok-call.field-0 c.requires.written (rw c.in_ok-call.was at shut) (when_none ((p : ℕ) → Did c.args.calls.now p Act.Close → BeganAfter c.args.calls.now p c.in_ok-call.field-0.time) c.close_by.result c.if-is_none.ensures c.close_by.ensures.none)

pub returns-in-None-clause-none : goal.returns-in-None-clause-none
returns-in-None-clause-none c = λ log shut.
    let close = when_both (λ p. Did c.args.calls.now p Act.Close) (λ p. BeganBy c.args.calls.now p c.in_ok-call.field-0.time) c.close_by.result c.if-is_none.ensures c.close_by.ensures.close c.close_by.ensures.begun in
    keeps_shut log c.args.calls.now c.in_ok-call.field-0 close.0 (rw c.in_ok-call.was at shut) close.1 close.2 c.in-None.ensures.none
