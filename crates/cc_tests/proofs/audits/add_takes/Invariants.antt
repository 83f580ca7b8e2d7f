use Rattle.std.proofs.Common.{◌≡◌, length}
use Rattle.cc_tests.proofs.audits.add_takes.Given as goal

-- the groups are as many as before
abbrev pub invariant-loop-place : goal.invariant-loop-place
invariant-loop-place g l = length l.history.takes ≡ length l.fn.history.takes
