use Rattle.cc_io.proofs.Writing.{then}
use Rattle.cc_io.proofs.pen.Pen.text.Goals as goal

pub returns : goal.returns
returns g c = then (rw c.if-hold.ensures.same at c.flush.ensures.pens) (rw c.if-hold-2.ensures.same at c.pass_on.ensures)
