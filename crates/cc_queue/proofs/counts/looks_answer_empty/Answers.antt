use Rattle.cc_queue.proofs.Counted.{looks_answer_empty}
use Rattle.cc_queue.proofs.counts.looks_answer_empty.Goals as goal

pub returns : goal.returns
returns c = looks_answer_empty
