use Rattle.cc_row.proofs.Law as law
use Rattle.cc_row.proofs.laws.rows_are_queues.Goals as goal

pub returns : goal.returns
returns c = law.rows_are_queues
