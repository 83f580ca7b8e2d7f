use Rattle.std.proofs.Common.{◌≡◌, ◌≤◌}
use Rattle.cc_queue.specs.Names.{Answer, Call, SendAnswer}
use Rattle.cc_queue.specs.Calls.{Tried}
use Rattle.cc_queue.proofs.blocking.send_until.Given as goal

abbrev pub invariant-loop : goal.invariant-loop
invariant-loop g l = Tried (Call.Send l.fn.body) (Answer.Send SendAnswer.Full) l.fn.sender l.sender × (l.fn.sender.setting.config.per_sender ≤ l.fn.sender.stand.begun → l.sender ≡ l.fn.sender)
