use Rattle.cc_io.proofs.Writing.{then}
use Rattle.cc_show.specs.Trace.{word_name}
use Rattle.cc_show.proofs.trace.write_word.Goals as goal

pub returns-in-Tail : goal.returns-in-Tail
unfolding word_name
returns-in-Tail g c = rw c.in-Tail.is (then c.write_chain.ensures c.text.ensures)

pub returns-in-Node : goal.returns-in-Node
unfolding word_name
returns-in-Node g c = rw c.in-Node.is (then (then (then c.write_chain-in-Node.ensures c.write_node_field.ensures) c.word.ensures) c.text-in-Node.ensures)

pub returns-in-Item : goal.returns-in-Item
unfolding word_name
returns-in-Item g c = rw c.in-Item.is (then (then c.write_item_field.ensures c.word-in-Item.ensures) c.text-in-Item.ensures)
