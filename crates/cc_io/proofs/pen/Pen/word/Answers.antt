use Rattle.cc_io.proofs.Writing.{then}
use Rattle.cc_io.proofs.pen.Pen.word.Goals as goal

pub returns : goal.returns
returns g c = then c.text.ensures c.number.ensures
