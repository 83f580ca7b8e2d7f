use Rattle.std.proofs.Common.{arith, length, refl, rules}
use Rattle.std.proofs.lemmas.Option.{slice_get_read, slice_get_within}
use Rattle.cc_judge.proofs.Crowding.{at_end, on_crowd}
use Rattle.cc_judge.proofs.overfull.first_crowd.Goals as goal

pub loop-at-preserved : goal.loop-at-preserved
loop-at-preserved c =
    let less = c.loop-at-test.true in
    let size = c.len-at-end.ensures in
    let sent = c.args.held.now.sent.items in
    let here = slice_get_read sent (length sent) c.loop-at.at c.index.result.now refl (search (rules, less, size)) (search (rules, c.index.ensures)) in
    on_crowd c.args.held.now c.args.number c.loop-at.at c.index.result.now here c.in_default.ensures.none c.loop-at.invariant

pub returns-in-Some-clause-some : goal.returns-in-Some-clause-some
returns-in-Some-clause-some c =
    let less = c.loop-at-test.true in
    let size = c.len-at-end.ensures in
    let sent = c.args.held.now.sent.items in
    let here = slice_get_read sent (length sent) c.loop-at.at c.index.result.now refl (search (rules, less, size)) (search (rules, c.index.ensures)) in
    record { at = c.loop-at.at; at_is = here; more = c.in-Some.ensures.some }

pub returns-clause-none : goal.returns-clause-none
returns-clause-none c = λ rules calls is time sends m.
    let sent = c.args.held.now.sent.items in
    let e = at_end calls sent c.args.number time sends is.sent m in
    let within = slice_get_within sent e.0 (e.1, e.2) e.3 in
    c.loop-at.invariant e.0 e.1 e.2 (omega (arith, within, c.loop-at-test.false, c.len-at-end.ensures)) e.3 rules calls is sends e.4
