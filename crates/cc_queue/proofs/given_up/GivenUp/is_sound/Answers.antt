use Rattle.cc_queue.proofs.Waiting.{ended_so}
use Rattle.cc_queue.proofs.given_up.GivenUp.is_sound.Goals as goal

pub returns : goal.returns
returns c = ended_so _ c.self.inside.seat c.self.view_is c.self.invariant.stopped c.is_sound.ensures
