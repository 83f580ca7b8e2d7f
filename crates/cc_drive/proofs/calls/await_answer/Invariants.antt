use Rattle.std.specs.Prelude.{◌-◌}
use Rattle.cc_steps.specs.Walk.{IsOf}
use Rattle.cc_drive.specs.Work.{ReadOn}
use Rattle.cc_drive.proofs.calls.await_answer.Given as goal

abbrev pub invariant-loop-turns : goal.invariant-loop-turns
invariant-loop-turns g l = ReadOn (g.P.Pending.call l.fn.pending) l.fn.turns l.turns (g.P.Pending.call l.pending) × IsOf l.fn.queue (g.P.Pending.call l.pending)

abbrev pub decreases-loop-turns : goal.decreases-loop-turns
decreases-loop-turns g l = l.turns.limit - l.turns.made
