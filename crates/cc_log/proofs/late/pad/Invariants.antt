use Rattle.std.proofs.Common.{◌≡◌, ◌++◌}
use Rattle.cc_judge.specs.Late.{padding}
use Rattle.cc_log.proofs.late.pad.Given as goal

abbrev pub invariant-loop-item : goal.invariant-loop-item
invariant-loop-item l = l.calls.items ≡ l.initial.calls.items ++ padding l.sent.items l.taken.items l.item
