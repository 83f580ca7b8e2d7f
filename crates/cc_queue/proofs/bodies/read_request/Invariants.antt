use Rattle.std.proofs.Common.{◌+◌}
use Rattle.cc_queue.specs.Names.{Phase, Sending}
use Rattle.cc_runs.specs.Codes.{further_words, behind}
use Rattle.cc_steps.specs.Walk.{IsReadyToStep}
use Rattle.cc_queue.specs.Work.{Serves}
use Rattle.cc_queue.proofs.bodies.read_request.Given as goal

abbrev pub invariant-loop-done : goal.invariant-loop-done
invariant-loop-done l =
    Serves l.fn.seat (behind (further_words l.tag) l.done (Phase.Sending l.fn.job (Sending.ReadBody record { tag = l.tag; body = l.body } (l.done + 1))) (Phase.Sending l.fn.job (Sending.ReadShut record { tag = l.tag; body = l.body }))) 0 l.seat
    × IsReadyToStep l.seat
