use Rattle.std.proofs.Common.{inl}
use Rattle.cc_judge.proofs.Faultless.{faultless_logs_have_orders}
use Rattle.cc_judge.proofs.Parts.{fault_so}
use Rattle.cc_judge.proofs.decide.timed.Goals as goal

pub returns-in-Some-clause-right : goal.returns-in-Some-clause-right
returns-in-Some-clause-right c = fault_so c.args.rules.now c.args.calls.now c.in_ok-first_fault.field-0 c.requires.differ c.in_ok-first_fault.ensures

pub returns-clause-right : goal.returns-clause-right
returns-clause-right c =
    let fine = rw c.in_default.is at c.in_ok-fault.ensures.none in
    (faultless_logs_have_orders c.args.rules.now c.args.calls.now c.requires.none c.requires.differ c.requires.written fine.0, inl fine.1)
