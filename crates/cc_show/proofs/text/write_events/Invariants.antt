use Rattle.cc_show.specs.Page.{event_text}
use Rattle.cc_io.specs.Written.{desk}
use Rattle.cc_report.proofs.Lines.{UpTo}
use Rattle.cc_show.proofs.text.write_events.Given as goal

-- the events so far
abbrev pub invariant-loop-event : goal.invariant-loop-event
invariant-loop-event g l =
    UpTo (desk l.fn.pen (g.W.Sink.bytes_written l.fn.sink) (g.W.Sink.write_failures l.fn.sink)) (desk l.pen (g.W.Sink.bytes_written l.sink) (g.W.Sink.write_failures l.sink))
    (λ i e. event_text e) l.events l.event-index
