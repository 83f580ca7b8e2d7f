use Rattle.cc_queue.proofs.Headline.{pending_stands}
use Rattle.cc_queue.proofs.passes.PendingSend.is_sound.Goals as goal

pub returns : goal.returns
returns c = pending_stands _ c.self.inside.at.seat c.self.inside.at.begun c.self.inside.at.node c.self.view_is c.self.invariant.0.list c.self.invariant.0.stand c.is_sound.ensures
