use Rattle.cc_io.proofs.Writing.{then}
use Rattle.cc_report.specs.Report.{item_text}
use Rattle.cc_report.proofs.report.write_item.Goals as goal

pub returns : goal.returns
unfolding item_text
returns g c = then (then (then c.word.ensures c.word-2.ensures) c.word-3.ensures) c.write_body.ensures
