use Rattle.cc_drive.proofs.Crewed.{driven_by}
use Rattle.cc_drive.proofs.driver.run_and_settle.Goals as goal

pub returns-clause-driven : goal.returns-clause-driven
returns-clause-driven g c = driven_by c.args.queue.now c.args.config.now _ c.settle.result c.requires.ready.queue c.in_ok-ran.ensures.run c.settle.ensures
