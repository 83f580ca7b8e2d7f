use Rattle.cc_row.proofs.BoundQueues as bound
use Rattle.cc_row.proofs.laws.bounded_queues_are_one.Goals as goal

pub returns : goal.returns
returns c = bound.bounded_queues
