use Rattle.std.proofs.Common.{arith}
use Rattle.cc_report.proofs.Lines.{one_more}
use Rattle.cc_report.proofs.report.write_lines.Goals as goal

pub loop-i-preserved : goal.loop-i-preserved
loop-i-preserved g c =
    one_more _ c.args.calls.now _ _ _ c.loop-i.i _ (omega arith) c.loop-i.invariant (rw c.answer_at.ensures at c.write_line.ensures)
