use Rattle.cc_report.proofs.Lines.{one_more}
use Rattle.cc_show.proofs.text.write_events.Goals as goal

pub loop-event-preserved : goal.loop-event-preserved
loop-event-preserved g c = one_more _ c.args.events.now _ _ _ c.loop-event.event-index _ c.loop-event-test.true c.loop-event.invariant c.write_event.ensures
