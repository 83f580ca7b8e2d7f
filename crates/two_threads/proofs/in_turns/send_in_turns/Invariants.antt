use Rattle.cc_steps.specs.Walk.{IsOf}
use Rattle.two_threads.proofs.in_turns.send_in_turns.Given as goal

abbrev pub invariant-loop-turn : goal.invariant-loop-turn
invariant-loop-turn g l = IsOf l.fn.queue l.pending
