use Rattle.cc_plan.specs.Calls.{calls_in}
use Rattle.cc_show.specs.Page.{call_text}
use Rattle.cc_io.specs.Written.{desk}
use Rattle.cc_report.proofs.Lines.{UpTo}
use Rattle.cc_show.proofs.text.write_calls.Given as goal

-- the calls so far
abbrev pub invariant-loop-place : goal.invariant-loop-place
invariant-loop-place g l =
    UpTo (desk l.fn.pen (g.W.Sink.bytes_written l.fn.sink) (g.W.Sink.write_failures l.fn.sink)) (desk l.pen (g.W.Sink.bytes_written l.sink) (g.W.Sink.write_failures l.sink))
    (λ i call. call_text call) (calls_in l.calls) l.place
