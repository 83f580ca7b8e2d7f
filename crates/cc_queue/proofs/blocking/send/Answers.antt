use Rattle.cc_queue.proofs.Headline.{completed_so}
use Rattle.cc_queue.proofs.blocking.send.Goals as goal

pub returns-clause-completed : goal.returns-clause-completed
returns-clause-completed g c = completed_so _ _ _ _ _ c.in_ok-pending.ensures.begun c.wait_for_answer.ensures
