use Rattle.cc_model.specs.HistoryRoom.{lists}
use Rattle.cc_io.specs.Written.{desk}
use Rattle.cc_report.specs.Report.{caller_in, lines_text}
use Rattle.cc_report.proofs.Lines.{UpTo}
use Rattle.cc_report.proofs.report.write_groups.Given as goal

-- the groups so far
abbrev pub invariant-loop-group : goal.invariant-loop-group
invariant-loop-group g l =
    UpTo (desk l.fn.pen (g.W.Sink.bytes_written l.fn.sink) (g.W.Sink.write_failures l.fn.sink)) (desk l.pen (g.W.Sink.bytes_written l.sink) (g.W.Sink.write_failures l.sink))
    (λ group side. lines_text (caller_in l.version group) side) (lists l.history).takes l.group
