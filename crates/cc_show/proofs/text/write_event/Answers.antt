use Rattle.cc_io.proofs.Writing.{then}
use Rattle.cc_show.specs.Page.{event_text}
use Rattle.cc_show.proofs.text.write_event.Goals as goal

pub returns : goal.returns
unfolding event_text
returns g c = then c.word.ensures (rw c.kind_number.ensures at c.word-2.ensures)
