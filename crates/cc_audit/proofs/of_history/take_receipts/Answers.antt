use Rattle.std.proofs.lemmas.Slice.Zip.{either_empty_from_Zip}
use Rattle.cc_audit.proofs.Ends.{all_takes}
use Rattle.cc_audit.proofs.of_history.take_receipts.Goals as goal

pub returns : goal.returns
returns c = all_takes c.loop-entry.receipts.items _ _ _ (either_empty_from_Zip c.loop-entry.entry-iterator c.next.new.self c.next.result c.in-None.is c.next.ensures.steps) c.loop-entry.invariant
