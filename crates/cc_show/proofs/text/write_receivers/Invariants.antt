use Rattle.std.specs.Prelude.{codes}
use Rattle.cc_io.specs.Written.{word_text}
use Rattle.cc_io.specs.Written.{desk}
use Rattle.cc_report.proofs.Lines.{UpTo}
use Rattle.cc_show.proofs.text.write_receivers.Given as goal

-- the receivers so far
abbrev pub invariant-loop-often : goal.invariant-loop-often
invariant-loop-often g l =
    UpTo (desk l.fn.pen (g.W.Sink.bytes_written l.fn.sink) (g.W.Sink.write_failures l.fn.sink)) (desk l.pen (g.W.Sink.bytes_written l.sink) (g.W.Sink.write_failures l.sink))
    (λ i word. word_text (codes " ") word) l.takes l.often-index
