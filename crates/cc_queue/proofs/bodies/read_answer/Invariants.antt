use Rattle.std.proofs.Common.{◌+◌}
use Rattle.cc_queue.specs.Names.{Answer, TakeAnswer, Phase}
use Rattle.cc_runs.specs.Codes.{further_words, behind, parcel, item_in}
use Rattle.cc_steps.specs.Walk.{IsToldAt}
use Rattle.cc_queue.specs.Work.{Serves}
use Rattle.cc_queue.proofs.bodies.read_answer.Given as goal

abbrev pub invariant-loop-done : goal.invariant-loop-done
invariant-loop-done l =
    Serves l.fn.seat (behind (further_words l.tag) l.done (Phase.ReadAnswerBody (parcel l.fn.place l.tag l.body) (l.done + 1)) (Phase.Idle)) 0 l.seat
    × IsToldAt l.seat (behind (further_words l.tag) l.done (Phase.ReadAnswerBody (parcel l.fn.place l.tag l.body) (l.done + 1)) (Phase.Finished (Answer.Take (TakeAnswer.Got (item_in (parcel l.fn.place l.tag l.body))))))
