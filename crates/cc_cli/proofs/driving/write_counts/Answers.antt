use Rattle.cc_io.proofs.Writing.{then, all_out}
use Rattle.cc_cli.specs.Drive.{counts_text}
use Rattle.cc_cli.proofs.driving.write_counts.Goals as goal

pub returns : goal.returns
unfolding counts_text
returns g c = all_out _ _ _ _ _ _ _ _ _ _ (rw c.new-pen.ensures at (then (then c.word.ensures c.word-2.ensures) c.text.ensures)) c.finish.ensures
