use Rattle.cc_report.proofs.Lines.{one_more}
use Rattle.cc_report.proofs.report.write_body.Goals as goal

pub loop-word-preserved : goal.loop-word-preserved
loop-word-preserved g c = one_more _ c.words-word-items.result.now _ _ _ c.loop-word.word-index 0 c.loop-word-test.true c.loop-word.invariant c.word.ensures
