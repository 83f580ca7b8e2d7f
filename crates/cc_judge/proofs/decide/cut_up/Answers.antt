use Rattle.cc_judge.proofs.Cuts.{finer_below, finer_differ}
use Rattle.cc_judge.proofs.Parts.{cut_clean, cut_fault, cut_finer, written_cut}
use Rattle.cc_judge.proofs.decide.cut_up.Goals as goal

pub found_in-requires-clause-written : goal.found_in-requires-clause-written
found_in-requires-clause-written c = written_cut c.args.rules.now.ties.items c.args.calls.now c.args.cut.now c.requires.may c.requires.cut c.requires.written

pub found_in-requires-clause-differ : goal.found_in-requires-clause-differ
found_in-requires-clause-differ c = finer_differ c.args.calls.now c.args.cut.now (cut_finer c.args.rules.now.ties.items c.args.calls.now c.args.cut.now c.requires.may c.requires.cut) c.requires.differ

pub found_in-requires-clause-below : goal.found_in-requires-clause-below
found_in-requires-clause-below c = finer_below c.args.calls.now c.args.cut.now (cut_finer c.args.rules.now.ties.items c.args.calls.now c.args.cut.now c.requires.may c.requires.cut) c.args.items c.requires.below

pub first_fault-requires-clause-written : goal.first_fault-requires-clause-written
first_fault-requires-clause-written c = written_cut c.args.rules.now.ties.items c.args.calls.now c.args.cut.now c.requires.may c.requires.cut c.requires.written

pub first_fault-requires-clause-differ : goal.first_fault-requires-clause-differ
first_fault-requires-clause-differ c = finer_differ c.args.calls.now c.args.cut.now (cut_finer c.args.rules.now.ties.items c.args.calls.now c.args.cut.now c.requires.may c.requires.cut) c.requires.differ

pub first_fault-requires-clause-below : goal.first_fault-requires-clause-below
first_fault-requires-clause-below c = finer_below c.args.calls.now c.args.cut.now (cut_finer c.args.rules.now.ties.items c.args.calls.now c.args.cut.now c.requires.may c.requires.cut) c.args.items c.requires.below

pub returns-in-Some-clause-right : goal.returns-in-Some-clause-right
returns-in-Some-clause-right c = cut_fault c.args.rules.now c.without_ties-plain.result c.args.calls.now c.args.cut.now c.requires.differ c.requires.written c.requires.may c.requires.cut c.without_ties-plain.ensures c.in_ok-first_fault.field-0 c.in_ok-first_fault.ensures

pub returns-clause-right : goal.returns-clause-right
returns-clause-right c = cut_clean c.args.rules.now c.without_ties-plain.result c.args.calls.now c.args.cut.now c.requires.differ c.requires.written c.requires.may c.requires.cut c.without_ties-plain.ensures (rw c.in_default.is at c.in_ok-fault.ensures.none)
