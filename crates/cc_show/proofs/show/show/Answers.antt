use Rattle.std.proofs.Common.{rules, true, false}
use Rattle.std.proofs.lemmas.Result.{err_from_is_err_and}
use Rattle.std.proofs.KnownBytes.{Keeps-refl}
use Rattle.cc_plan.specs.Plan.{plan_value}
use Rattle.cc_show.proofs.Pages.{shown_so}
use Rattle.cc_show.proofs.show.show.Goals as goal

pub returns-in-None-clause-shows : goal.returns-in-None-clause-shows
returns-in-None-clause-shows g c = (c.in_ok-input.input.items, search rules, (plan_value c.in_ok-plan.plan, rw c.deref.ensures.value at c.in_ok-plan.ensures.plan, rw c.in-None.is at c.in_ok-played.ensures), Keeps-refl _)

pub returns-in_err-write_shown-clause-shows : goal.returns-in_err-write_shown-clause-shows
returns-in_err-write_shown-clause-shows g c =
    let fault = err_from_is_err_and c.from_residual-in_err-write_shown.result c.from_residual-in_err-write_shown.ensures.1 in
    rw (fault.1, fault.2)
    (shown_so true c.args.form (plan_value c.in_ok-plan.plan) c.in-Some.played.machine _ c.in_ok-verdict.verdict c.in-Some.played.events.items _ _ c.in_ok-input.input.items _ _ _ _ (search rules) (rw c.deref.ensures.value at c.in_ok-plan.ensures.plan)
    (rw c.in-Some.is at c.in_ok-played.ensures) c.history-history.ensures.history c.history-history.ensures.legal c.history-history.ensures.fifo c.in_ok-verdict.ensures (rw c.deref-2.ensures.value at c.in_err-write_shown.ensures))

pub returns-clause-shows : goal.returns-clause-shows
returns-clause-shows g c =
    shown_so false c.args.form (plan_value c.in_ok-plan.plan) c.in-Some.played.machine _ c.in_ok-verdict.verdict c.in-Some.played.events.items _ _ c.in_ok-input.input.items _ _ _ _ (search rules) (rw c.deref.ensures.value at c.in_ok-plan.ensures.plan)
    (rw c.in-Some.is at c.in_ok-played.ensures) c.history-history.ensures.history c.history-history.ensures.legal c.history-history.ensures.fifo c.in_ok-verdict.ensures (rw c.deref-2.ensures.value at c.in_ok-write_shown.ensures)
