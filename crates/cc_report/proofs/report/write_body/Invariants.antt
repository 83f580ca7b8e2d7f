use Rattle.std.specs.Prelude.{codes}
use Rattle.cc_io.specs.Written.{desk, word_text}
use Rattle.cc_report.proofs.Lines.{UpTo}
use Rattle.cc_report.proofs.report.write_body.Given as goal

-- the words so far
abbrev pub invariant-loop-word : goal.invariant-loop-word
invariant-loop-word g l =
    UpTo (desk l.fn.pen (g.W.Sink.bytes_written l.fn.sink) (g.W.Sink.write_failures l.fn.sink)) (desk l.pen (g.W.Sink.bytes_written l.sink) (g.W.Sink.write_failures l.sink))
    (λ i word. word_text (codes " ") word) l.word-items l.word-index
