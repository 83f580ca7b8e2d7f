use Rattle.cc_steps.proofs.ReadAnswers.{own_linked}
use Rattle.cc_steps.proofs.steps.read_next.Goals as goal

pub returns-clause-own : goal.returns-clause-own
returns-clause-own c = own_linked _ _ _ c.load.ensures.found c.load.ensures.step
