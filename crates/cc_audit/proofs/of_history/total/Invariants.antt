use Rattle.std.proofs.Common.{◌≡◌, drop}
use Rattle.cc_model.specs.HistoryRoom.{lists}
use Rattle.cc_audit.specs.Receipts.{total_by, total_of}
use Rattle.cc_audit.proofs.of_history.total.Given as goal

-- no answer so far is Shut
abbrev pub invariant-loop-answer : goal.invariant-loop-answer
invariant-loop-answer l = total_by (drop l.answer-index l.answer-items) ≡ total_of (lists l.history)
