use Rattle.cc_queue.specs.Headline.{name}
use Rattle.cc_queue.specs.Receipts.{got}
use Rattle.cc_tests.proofs.Rounds.{has_kept, taken_more, taken_none}
use Rattle.cc_tests.proofs.on_threads.take_all.Goals as goal

pub returns-in_default : goal.returns-in_default
returns-in_default g c = has_kept got c.args.queue.now c.args.receiver.number (name c.args.receiver) _ _ (taken_none c.args.queue.now c.args.receiver.number (name c.args.receiver) c.loop.receiver _ _ _ c.in_default.not-Got c.loop.invariant c.take_until-after.ensures)

pub loop-preserved : goal.loop-preserved
loop-preserved g c = taken_more c.args.queue.now c.args.receiver.number (name c.args.receiver) _ c.loop.receiver _ _ _ _ _ c.number-number.ensures c.loop.invariant c.in-Got.is c.take_until-after.ensures c.add.ensures
