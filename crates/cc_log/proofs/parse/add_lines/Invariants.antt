use Rattle.std.proofs.Common.{◌≡◌, ℕ, List}
use Rattle.cc_log.specs.Lines.{IsAhead, IsSound}
use Rattle.cc_log.specs.Log.{Known}
use Rattle.cc_log.specs.State.{Shows}
use Rattle.cc_log.proofs.Reading.{Leads}
use Rattle.cc_log.proofs.parse.add_lines.Given as goal

abbrev pub invariant-loop-number : goal.invariant-loop-number
invariant-loop-number g l = record {
  failures : g.R.Source.read_failures l.source ≡ g.R.Source.read_failures l.fn.source;
  sound : IsSound l.lines (g.R.Source.bytes_left l.source);
  known : Known;
  shows : Shows l.fn.state.log.options l.state known;
  leads : (after : List ℕ) → IsAhead l.lines (g.R.Source.bytes_left l.source) after → Leads l.fn.state.log.options (g.R.Source.bytes_left l.fn.source) known l.number after;
}
