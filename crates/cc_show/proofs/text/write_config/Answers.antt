use Rattle.cc_io.proofs.Writing.{then}
use Rattle.cc_show.specs.Page.{config_text}
use Rattle.cc_show.proofs.text.write_config.Goals as goal

pub returns : goal.returns
unfolding config_text
returns g c = then (then (then (then (then (then (then c.word.ensures c.word-2.ensures) c.word-3.ensures) c.word-4.ensures) c.word-5.ensures) c.word-6.ensures) c.word-7.ensures) c.text.ensures
