use Rattle.cc_tests.proofs.Rounds.{closed_so}
use Rattle.cc_tests.proofs.on_threads.close_by.Goals as goal

pub returns-clause-kept : goal.returns-clause-kept
returns-clause-kept g c = closed_so c.args.queue.now c.args.closer c.close.result.0 c.close.result.1 c.requires c.is_sound.ensures.met c.close.ensures
