use Rattle.std.proofs.Common.{ap}
use Rattle.cc_queue.specs.InPlace.{SenderHeld}
use Rattle.cc_queue.proofs.Counted.{found_by}
use Rattle.cc_queue.proofs.InPlace.{sender_stopped}
use Rattle.cc_queue.proofs.counts.HeldSenderLooks.look.Goals as goal

pub returns-clause-found : goal.returns-clause-found
returns-clause-found c = found_by _ _ _ c.args.object c.watch-found.result (ap (λ (s : SenderHeld). s.pass) c.self.view_is) (sender_stopped _ _ c.self.invariant) c.watch-found.ensures.watched c.is_sound.ensures
