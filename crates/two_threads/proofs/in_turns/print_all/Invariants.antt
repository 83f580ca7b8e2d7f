use Rattle.cc_steps.specs.Walk.{IsOf}
use Rattle.two_threads.proofs.in_turns.print_all.Given as goal

abbrev pub invariant-loop : goal.invariant-loop
invariant-loop g l = IsOf l.fn.queue l.receiver
