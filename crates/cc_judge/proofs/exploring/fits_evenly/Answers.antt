use Rattle.std.proofs.Common.{refl}
use Rattle.cc_judge.proofs.Cuts.{finer_below, finer_differ}
use Rattle.cc_judge.proofs.Parts.{clean_evenly}
use Rattle.cc_judge.proofs.exploring.fits_evenly.Goals as goal

pub found_in-requires-clause-differ : goal.found_in-requires-clause-differ
found_in-requires-clause-differ c = finer_differ c.args.calls.now c.as_slice-cut.result.now (c.if-not-are_in_parts.ensures refl) c.requires.differ

pub found_in-requires-clause-below : goal.found_in-requires-clause-below
found_in-requires-clause-below c = finer_below c.args.calls.now c.as_slice-cut.result.now (c.if-not-are_in_parts.ensures refl) c.args.items c.requires.below

pub returns : goal.returns
returns c = λ so. clean_evenly c.args.rules.now c.without_ties-plain.result c.args.calls.now c.as_slice-cut.result.now c.without_ties-plain.ensures c.requires.differ (record { finer = c.if-not-are_in_parts.ensures refl; timed = rw c.as_slice-ties.ensures.value at (c.if-not-are_timed.ensures refl) }) (c.if-not-is_written.ensures.written refl) (rw c.in-None.is at c.in_ok-found_in.ensures.none)
