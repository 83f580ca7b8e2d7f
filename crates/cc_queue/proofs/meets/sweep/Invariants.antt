use Rattle.cc_queue.proofs.Meetings.{Sweeping}
use Rattle.cc_queue.proofs.meets.sweep.Given as goal

abbrev pub invariant-loop-other : goal.invariant-loop-other
invariant-loop-other g l = Sweeping g.P.Meets.walk l.initial.first l.first l.initial.others l.others l.other-index
