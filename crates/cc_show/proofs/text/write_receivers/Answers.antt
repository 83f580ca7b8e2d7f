use Rattle.cc_report.proofs.Lines.{one_more}
use Rattle.cc_show.proofs.text.write_receivers.Goals as goal

pub loop-often-preserved : goal.loop-often-preserved
loop-often-preserved g c = one_more _ c.args.takes.now _ _ _ c.loop-often.often-index _ c.loop-often-test.true c.loop-often.invariant c.word.ensures
