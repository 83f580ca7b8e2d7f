use Rattle.cc_io.proofs.Writing.{then}
use Rattle.cc_show.specs.Page.{run_text}
use Rattle.cc_show.proofs.text.write_run.Goals as goal

pub returns : goal.returns
unfolding run_text
returns g c =
    then (then (then (then (then c.write_config.ensures (rw c.deref.ensures.value at c.write_senders.ensures)) (rw c.deref-2.ensures.value at c.write_receivers.ensures))
    c.text.ensures) c.write_events.ensures) c.text-2.ensures
