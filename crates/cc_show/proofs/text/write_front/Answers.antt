use Rattle.cc_io.proofs.Writing.{then, all_out}
use Rattle.cc_show.specs.Page.{front_text}
use Rattle.cc_show.proofs.Room.{room}
use Rattle.cc_show.proofs.text.write_front.Goals as goal

pub write_run-requires : goal.write_run-requires
write_run-requires g c = room c.text.ensures (λ _. c.requires)

pub text-requires-2 : goal.text-requires-2
text-requires-2 g c = room c.write_run.ensures (room c.text.ensures (λ _. c.requires))

pub finish-requires : goal.finish-requires
finish-requires g c = room c.text-2.ensures (room c.write_run.ensures (room c.text.ensures (λ _. c.requires)))

pub returns : goal.returns
unfolding front_text
returns g c = all_out _ _ _ _ _ _ _ _ _ _ (rw c.new-pen.ensures at (then (then c.text.ensures c.write_run.ensures) c.text-2.ensures)) c.finish.ensures
