use Rattle.std.proofs.Common.{◌+◌}
use Rattle.cc_queue.specs.Names.{Phase, Taking}
use Rattle.cc_runs.specs.Codes.{further_words, behind, parcel}
use Rattle.cc_steps.specs.Walk.{IsReadyToStep}
use Rattle.cc_queue.specs.Work.{Serves}
use Rattle.cc_queue.proofs.takes.take_body.Given as goal

abbrev pub invariant-loop-done : goal.invariant-loop-done
invariant-loop-done l =
    Serves l.fn.seat (behind (further_words l.fn.tag) l.done (Phase.Taking l.fn.job (Taking.ReadItemBody l.fn.head.dummy l.fn.head.node (parcel l.fn.head.taken l.fn.tag l.body) (l.done + 1))) (Phase.Taking l.fn.job (Taking.WriteHead l.fn.head.dummy l.fn.head.node (parcel l.fn.head.taken l.fn.tag l.body)))) 0 l.seat
    × IsReadyToStep l.seat
