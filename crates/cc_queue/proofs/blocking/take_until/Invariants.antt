use Rattle.cc_queue.specs.Names.{Answer, Call, TakeAnswer}
use Rattle.cc_queue.specs.Calls.{Tried}
use Rattle.cc_queue.proofs.blocking.take_until.Given as goal

abbrev pub invariant-loop : goal.invariant-loop
invariant-loop g l = Tried Call.Take (Answer.Take TakeAnswer.Empty) l.fn.receiver l.receiver
