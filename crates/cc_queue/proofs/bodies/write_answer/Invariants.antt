use Rattle.std.proofs.Common.{◌+◌}
use Rattle.cc_queue.specs.Names.{Phase}
use Rattle.cc_runs.specs.Codes.{further_words, behind, item_in, tag_of}
use Rattle.cc_steps.specs.Walk.{IsReadyToStep}
use Rattle.cc_queue.specs.Work.{Serves}
use Rattle.cc_queue.proofs.bodies.write_answer.Given as goal

abbrev pub invariant-loop-done : goal.invariant-loop-done
invariant-loop-done l =
    Serves l.fn.seat (behind (further_words (tag_of (item_in l.fn.item))) l.done (Phase.WriteAnswerBody l.fn.job (item_in l.fn.item) (l.done + 1)) (Phase.MarkDone l.fn.job)) 0 l.seat
    × IsReadyToStep l.seat
