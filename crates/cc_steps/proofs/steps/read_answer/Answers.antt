use Rattle.cc_steps.proofs.ReadAnswers.{told_so}
use Rattle.cc_steps.proofs.steps.read_answer.Goals as goal

pub returns-clause-told : goal.returns-clause-told
returns-clause-told c = told_so c.args.seat.now c.load.result c.load.new.seat c.load.ensures.found c.load.ensures.step
