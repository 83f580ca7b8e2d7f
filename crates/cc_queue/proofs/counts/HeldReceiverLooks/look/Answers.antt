use Rattle.std.proofs.Common.{ap}
use Rattle.cc_queue.specs.InPlace.{ReceiverHeld}
use Rattle.cc_queue.proofs.Counted.{found_by}
use Rattle.cc_queue.proofs.InPlace.{receiver_stopped}
use Rattle.cc_queue.proofs.counts.HeldReceiverLooks.look.Goals as goal

pub returns-clause-found : goal.returns-clause-found
returns-clause-found c = found_by _ _ _ c.args.object c.watch-found.result (ap (λ (r : ReceiverHeld). r.pass) c.self.view_is) (receiver_stopped _ _ c.self.invariant) c.watch-found.ensures.watched c.is_sound.ensures
