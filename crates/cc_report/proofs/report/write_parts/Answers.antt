use Rattle.cc_io.proofs.Writing.{then}
use Rattle.cc_report.specs.Report.{report_text}
use Rattle.cc_report.proofs.report.write_parts.Goals as goal

pub returns : goal.returns
unfolding report_text
returns g c = then (then (rw (c.calls.ensures, c.answers.ensures, c.sends-sends.ensures) at c.write_lines.ensures) c.write_groups.ensures) c.write_verdict_line.ensures
