use Rattle.cc_judge.specs.Names.{Held}
use Rattle.cc_judge.proofs.Crowding.{fit_so, held_by, many_so, opened}
use Rattle.cc_judge.proofs.overfull.many_fault.Goals as goal

pub returns-in_default-first_crowd-clause-none : goal.returns-in_default-first_crowd-clause-none
returns-in_default-first_crowd-clause-none c =
    let h : Held = record { sent = c.in_ok-by_time.field-0; gone = c.in_ok-by_time-2.field-0; left = c.in_ok-by_time-3.field-0; waits = c.in_ok-by_time-4.field-0 } in
    let held = held_by c.args.rules.now c.args.calls.now c.args.index.now h c.requires.index c.requires.written c.in_ok-by_time.ensures c.in_ok-by_time-2.ensures c.in_ok-by_time-3.ensures c.in_ok-by_time-4.ensures in
    fit_so c.args.rules.now c.args.calls.now h c.in-Some.number c.in-Some.ensures.some held (c.in_default-first_crowd.ensures.none (opened c.args.rules.now) c.args.calls.now held)

pub returns-clause-some : goal.returns-clause-some
returns-clause-some c =
    let h : Held = record { sent = c.in_ok-by_time.field-0; gone = c.in_ok-by_time-2.field-0; left = c.in_ok-by_time-3.field-0; waits = c.in_ok-by_time-4.field-0 } in
    let held = held_by c.args.rules.now c.args.calls.now c.args.index.now h c.requires.index c.requires.written c.in_ok-by_time.ensures c.in_ok-by_time-2.ensures c.in_ok-by_time-3.ensures c.in_ok-by_time-4.ensures in
    many_so c.args.rules.now c.args.calls.now h c.in-Some.number c.in-Some-first_crowd.field-0 _ c.in-Some.ensures.some held c.in-Some-first_crowd.ensures.some c.in_ok-sends.ensures
