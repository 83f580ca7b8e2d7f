use Rattle.cc_io.proofs.Writing.{then}
use Rattle.cc_report.proofs.Lines.{all}
use Rattle.cc_show.proofs.Texts.{over_map, named_more}
use Rattle.cc_show.proofs.text.write_senders.Goals as goal

pub loop-calls-preserved : goal.loop-calls-preserved
loop-calls-preserved g c =
    named_more _ c.args.senders.now _ _ _ c.loop-calls.calls-index c.calls-item.result c.loop-calls-test.true c.calls-item.is c.loop-calls.invariant (then c.write_calls.ensures c.text.ensures)

pub returns : goal.returns
returns g c = rw (over_map _ _ 0 c.args.senders.now) (all _ c.args.senders.now _ _ c.loop-calls.calls-index c.loop-calls-test.false c.loop-calls.invariant)
