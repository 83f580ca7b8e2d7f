use Rattle.cc_row.proofs.Exact as exact
use Rattle.cc_row.proofs.laws.exact_queues_are_one.Goals as goal

pub returns : goal.returns
returns c = exact.exact_queues_are_one
