use Rattle.cc_io.proofs.Writing.{then}
use Rattle.cc_report.specs.Report.{verdict_text}
use Rattle.cc_report.proofs.report.write_verdict_line.Goals as goal

pub returns-in-Clean : goal.returns-in-Clean
unfolding verdict_text
returns-in-Clean g c = rw c.in-Clean.is c.text.ensures

pub returns-in-Fault : goal.returns-in-Fault
unfolding verdict_text
returns-in-Fault g c = rw c.in-Fault.is (then (then c.word.ensures c.word-in-Fault.ensures) c.text-in-Fault.ensures)
