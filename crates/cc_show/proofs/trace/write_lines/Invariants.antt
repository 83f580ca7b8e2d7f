use Rattle.std.specs.Prelude.{◌+◌}
use Rattle.cc_show.specs.Trace.{line_text}
use Rattle.cc_io.specs.Written.{desk}
use Rattle.cc_report.proofs.Lines.{UpTo}
use Rattle.cc_show.proofs.trace.write_lines.Given as goal

-- the lines so far
abbrev pub invariant-loop-i : goal.invariant-loop-i
invariant-loop-i g l =
    UpTo (desk l.fn.pen (g.W.Sink.bytes_written l.fn.sink) (g.W.Sink.write_failures l.fn.sink)) (desk l.pen (g.W.Sink.bytes_written l.sink) (g.W.Sink.write_failures l.sink))
    (λ i e. line_text (i + 1) e) l.events l.i
