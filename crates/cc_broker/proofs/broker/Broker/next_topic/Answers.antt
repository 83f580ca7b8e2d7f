use Rattle.std.proofs.Common.{sym}
use Rattle.cc_broker.specs.Topics.{queues}
use Rattle.cc_broker.proofs.NextPasses.{none_left, next_passes}
use Rattle.cc_broker.proofs.broker.Broker.next_topic.Goals as goal

pub returns-in_err-queue-clause-none : goal.returns-in_err-queue-clause-none
returns-in_err-queue-clause-none c = rw c.from_residual.ensures (none_left (queues c.args.self.now) c.args.number _ (sym c.in_err-queue.ensures) c.requires)

pub returns-clause-passes : goal.returns-clause-passes
returns-clause-passes c = (next_passes (queues c.args.self.now) c.args.number _ _ _ (sym c.in_ok-queue.ensures) c.requires c.remove-senders.ensures.value).0

pub returns-clause-rest : goal.returns-clause-rest
returns-clause-rest c = rw c.remove-senders.ensures.items (next_passes (queues c.args.self.now) c.args.number _ _ _ (sym c.in_ok-queue.ensures) c.requires c.remove-senders.ensures.value).1
