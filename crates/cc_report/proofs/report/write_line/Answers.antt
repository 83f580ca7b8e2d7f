use Rattle.cc_io.proofs.Writing.{then}
use Rattle.cc_report.specs.Report.{line_text}
use Rattle.cc_report.proofs.report.write_line.Goals as goal

pub returns : goal.returns
unfolding line_text
returns g c =
    then (then (then (then (then (then (then (then c.write_caller.ensures c.word.ensures) c.text.ensures)
    c.write_pass.ensures) c.text-2.ensures) c.write_call.ensures) c.text-3.ensures) c.write_answer.ensures) c.text-4.ensures
