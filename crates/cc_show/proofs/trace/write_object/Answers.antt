use Rattle.cc_io.proofs.Writing.{then}
use Rattle.cc_show.specs.Trace.{object_text}
use Rattle.cc_show.proofs.trace.write_object.Goals as goal

pub returns-in-Head : goal.returns-in-Head
unfolding object_text
returns-in-Head g c = rw c.in-Head.is (then c.write_chain.ensures c.text-in-Head.ensures)

pub returns-in-Taken : goal.returns-in-Taken
unfolding object_text
returns-in-Taken g c = rw c.in-Taken.is (then c.write_chain-in-Taken.ensures c.text-in-Taken.ensures)
