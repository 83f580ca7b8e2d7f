use Rattle.cc_io.proofs.Writing.{then}
use Rattle.cc_show.specs.Trace.{line_text}
use Rattle.cc_show.proofs.trace.write_line.Goals as goal

pub returns : goal.returns
unfolding line_text
returns g c =
    then (then (then (then (then (then (then (then (then (then c.word.ensures c.text.ensures) c.write_pass.ensures) c.text-2.ensures) (rw c.kind_name.ensures at c.text-3.ensures)) c.text-4.ensures)
    c.write_word.ensures) c.word-2.ensures) c.word-3.ensures) c.word-4.ensures) c.text-5.ensures
