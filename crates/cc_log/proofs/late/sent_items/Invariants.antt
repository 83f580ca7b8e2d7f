use Rattle.std.proofs.Common.{◌≡◌, take}
use Rattle.cc_judge.specs.Late.{sent_items}
use Rattle.cc_log.proofs.late.sent_items.Given as goal

abbrev pub invariant-loop-call : goal.invariant-loop-call
invariant-loop-call l = l.marks.items ≡ sent_items l.items (take l.call-index l.calls)
