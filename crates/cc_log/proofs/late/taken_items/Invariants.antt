use Rattle.std.proofs.Common.{◌≡◌, take}
use Rattle.cc_judge.specs.Late.{taken_items}
use Rattle.cc_log.proofs.late.taken_items.Given as goal

abbrev pub invariant-loop-call : goal.invariant-loop-call
invariant-loop-call l = l.marks.items ≡ taken_items l.items (take l.call-index l.calls)
