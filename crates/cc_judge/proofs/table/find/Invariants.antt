use Rattle.std.proofs.Common.{◌≡◌, length}
use Rattle.cc_judge.proofs.Tables.{TabledTo}
use Rattle.cc_judge.proofs.table.find.Given as goal

abbrev pub invariant-loop-place : goal.invariant-loop-place
invariant-loop-place l = TabledTo l.calls l.kind l.table.items l.place × (length l.table.items ≡ l.items)
