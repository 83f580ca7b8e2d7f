use Rattle.cc_steps.specs.Walk.{IsOf}
use Rattle.two_threads.proofs.send_all.Given as goal

abbrev pub invariant-loop-number : goal.invariant-loop-number
invariant-loop-number g l = IsOf l.fn.queue l.sender
