use Rattle.std.proofs.Common.{◌≡◌}
use Rattle.cc_cli.proofs.judging.page.write_calls.Given as goal

abbrev pub invariant-loop-place : goal.invariant-loop-place
invariant-loop-place g l = g.W.Sink.write_failures l.sink ≡ g.W.Sink.write_failures l.fn.sink
