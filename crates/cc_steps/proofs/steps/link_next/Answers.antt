use Rattle.cc_steps.proofs.StepLaws.{pending}
use Rattle.cc_steps.proofs.steps.link_next.Goals as goal

pub returns-clause-pending : goal.returns-clause-pending
returns-clause-pending c = pending c.args.seat.now c.store_release.new.seat c.store_release.ensures.walked c.store_release.ensures.step _ c.requires.at
