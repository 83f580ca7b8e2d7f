use Rattle.std.proofs.Common.{◌≡◌, ◌++◌, length, List, ℕ}
use Rattle.std.specs.Io.KnownBytes.{Appends}
use Rattle.cc_io.proofs.pen.write_bytes.Given as goal

-- what was written, and what is left
abbrev pub invariant-loop-rest : goal.invariant-loop-rest
invariant-loop-rest g l = (done : List ℕ) × (l.bytes ≡ done ++ l.rest)
    × Appends (g.W.Sink.bytes_written l.fn.sink) (g.W.Sink.bytes_written l.sink) done
    × (g.W.Sink.write_failures l.sink ≡ g.W.Sink.write_failures l.fn.sink)

abbrev pub decreases-loop-rest : goal.decreases-loop-rest
decreases-loop-rest g l = length l.rest
