use Rattle.std.proofs.Common.{[]}
use Rattle.cc_queue.specs.Headline.{StandsInOne}
use Rattle.cc_queue.proofs.pending.wait_for_answer.Given as goal

abbrev pub invariant-loop : goal.invariant-loop
invariant-loop g l = StandsInOne (g.P.Pending.call l.fn.pending) [] (g.P.Pending.call l.pending)
