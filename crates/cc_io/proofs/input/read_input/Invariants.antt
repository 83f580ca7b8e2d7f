use Rattle.std.proofs.Common.{◌≡◌, ◌≤◌, ◌-◌, length, vec_len}
use Rattle.std.specs.Io.KnownBytes.{Consumes}
use Rattle.cc_io.proofs.input.read_input.Given as goal

abbrev pub invariant-loop-chunk : goal.invariant-loop-chunk
invariant-loop-chunk g l = record {
  consumed : Consumes (g.R.Source.bytes_left l.fn.source) (g.R.Source.bytes_left l.source) l.input.items;
  short : vec_len l.input ≤ 16777217;
  chunk : length l.chunk ≡ 16384;
  no_failure : g.R.Source.read_failures l.source ≡ g.R.Source.read_failures l.fn.source;
}

abbrev pub decreases-loop-chunk : goal.decreases-loop-chunk
decreases-loop-chunk g l = 16777217 - vec_len l.input
