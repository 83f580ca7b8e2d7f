use Rattle.cc_queue.proofs.Headline.{completed_so}
use Rattle.cc_queue.proofs.blocking.take.Goals as goal

pub returns : goal.returns
returns g c = completed_so _ _ _ _ _ c.begin_take-pending.ensures c.wait_for_answer.ensures
