use Rattle.cc_queue.specs.Headline.{name}
use Rattle.cc_tests.proofs.Rounds.{sent_more}
use Rattle.cc_tests.proofs.on_threads.send_all.Goals as goal

pub loop-item-preserved : goal.loop-item-preserved
loop-item-preserved g c = sent_more c.args.queue.now c.args.sender.number (name c.args.sender) _ _ c.loop-item.sender _ _ _ _ _ _ c.number-number.ensures c.loop-item.invariant c.in-Accepted.is c.in-Ok.ensures.sent c.begun.ensures c.add.ensures
