use Rattle.std.specs.Prelude.{◌++◌, codes}
use Rattle.cc_plan.specs.Calls.{calls_in}
use Rattle.cc_show.specs.Page.{calls_text}
use Rattle.cc_io.specs.Written.{desk}
use Rattle.cc_report.proofs.Lines.{UpTo}
use Rattle.cc_show.proofs.text.write_senders.Given as goal

-- the senders so far
abbrev pub invariant-loop-calls : goal.invariant-loop-calls
invariant-loop-calls g l =
    UpTo (desk l.fn.pen (g.W.Sink.bytes_written l.fn.sink) (g.W.Sink.write_failures l.fn.sink)) (desk l.pen (g.W.Sink.bytes_written l.sink) (g.W.Sink.write_failures l.sink))
    (λ i calls. calls_text (calls_in calls) ++ codes "\n") l.senders l.calls-index
