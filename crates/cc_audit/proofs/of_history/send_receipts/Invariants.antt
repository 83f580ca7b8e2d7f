use Rattle.std.proofs.Common.{◌≡◌, ◌++◌, map}
use Rattle.std.specs.Iterator.Adapters.{zip_first, zip_second}
use Rattle.std.specs.Slice.Iter.{iter_rest}
use Rattle.cc_model.specs.Items.{accepted_by}
use Rattle.cc_model.specs.HistoryRoom.{lists}
use Rattle.cc_audit.specs.Receipts.{send_receipt, sends_of}
use Rattle.cc_audit.proofs.of_history.send_receipts.Given as goal

-- the receipts so far, and those that are left
abbrev pub invariant-loop-entry : goal.invariant-loop-entry
invariant-loop-entry l = l.receipts.items ++ map send_receipt (accepted_by (iter_rest (zip_first l.entry-iterator)) (iter_rest (zip_second l.entry-iterator))) ≡ sends_of (lists l.history)
