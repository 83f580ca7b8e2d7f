use Rattle.std.proofs.Common.{◌+◌}
use Rattle.cc_queue.specs.Names.{Phase, Sending}
use Rattle.cc_runs.specs.Codes.{further_words, behind}
use Rattle.cc_steps.specs.Walk.{IsReadyToStep}
use Rattle.cc_queue.specs.Work.{Serves}
use Rattle.cc_queue.proofs.sends.prepare.Given as goal

abbrev pub invariant-loop-done : goal.invariant-loop-done
invariant-loop-done l =
    Serves l.fn.seat (behind (further_words l.fn.parcel.tag) l.done (Phase.Sending l.fn.job (Sending.WriteItemBody l.fn.parcel l.fn.node (l.done + 1))) (Phase.Sending l.fn.job (Sending.ReadLast l.fn.parcel.place l.fn.node))) 0 l.seat
    × IsReadyToStep l.seat
