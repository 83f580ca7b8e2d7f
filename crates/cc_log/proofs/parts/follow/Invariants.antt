use Rattle.std.proofs.Common.{◌≡◌}
use Rattle.cc_log.specs.Follow.{IsOnWay}
use Rattle.cc_log.specs.Lines.{IsSound}
use Rattle.cc_log.proofs.parts.follow.Given as goal

abbrev pub invariant-loop-number : goal.invariant-loop-number
invariant-loop-number g l = record {
  failures : g.R.Source.read_failures l.source ≡ g.R.Source.read_failures l.fn.source;
  sound : IsSound l.lines (g.R.Source.bytes_left l.source);
  way : IsOnWay l.fn.options (g.R.Source.bytes_left l.fn.source) (g.R.Source.bytes_left l.source) l.lines l.part l.number;
}
