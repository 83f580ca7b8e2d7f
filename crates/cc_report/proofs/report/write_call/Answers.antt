use Rattle.cc_io.proofs.Writing.{then}
use Rattle.cc_report.specs.Report.{call_text}
use Rattle.cc_report.proofs.report.write_call.Goals as goal

pub returns-in-Send : goal.returns-in-Send
unfolding call_text
returns-in-Send g c = rw c.in-Send.is (then c.text.ensures c.write_body.ensures)
