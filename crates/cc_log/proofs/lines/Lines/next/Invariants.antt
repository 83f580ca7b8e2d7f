use Rattle.std.proofs.Common.{◌≡◌, ◌≤◌, [], length}
use Rattle.cc_log.specs.Lines.{IsSound, Passes, line_limit}
use Rattle.cc_log.proofs.lines.Lines.next.Given as goal

abbrev pub invariant-loop : goal.invariant-loop
invariant-loop g l = record {
  failures : g.R.Source.read_failures l.source ≡ g.R.Source.read_failures l.fn.source;
  sound : IsSound l.self (g.R.Source.bytes_left l.source);
  short : length l.line.items ≤ line_limit;
  so_far : Passes l.fn.self l.self (g.R.Source.bytes_left l.fn.source) (g.R.Source.bytes_left l.source) [] l.line.items;
}
