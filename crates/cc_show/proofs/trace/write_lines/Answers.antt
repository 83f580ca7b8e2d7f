use Rattle.std.proofs.Common.{arith}
use Rattle.cc_report.proofs.Lines.{one_more}
use Rattle.cc_show.proofs.trace.write_lines.Goals as goal

pub loop-i-preserved : goal.loop-i-preserved
loop-i-preserved g c = one_more _ c.args.events.now _ _ _ c.loop-i.i _ (omega arith) c.loop-i.invariant c.write_line.ensures
