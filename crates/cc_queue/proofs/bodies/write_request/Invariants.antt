use Rattle.std.proofs.Common.{◌+◌}
use Rattle.cc_queue.specs.Names.{Phase}
use Rattle.cc_runs.specs.Codes.{further_words, behind}
use Rattle.cc_steps.specs.Walk.{IsReadyToStep}
use Rattle.cc_queue.specs.Work.{Serves}
use Rattle.cc_queue.proofs.bodies.write_request.Given as goal

abbrev pub invariant-loop-done : goal.invariant-loop-done
invariant-loop-done l =
    Serves l.fn.seat (behind (further_words l.fn.request.tag) l.done (Phase.WriteBody l.fn.put l.fn.request (l.done + 1)) (Phase.Link l.fn.put)) 0 l.seat
    × IsReadyToStep l.seat
