use Rattle.cc_queue.proofs.Headline.{pending_stands}
use Rattle.cc_queue.proofs.passes.PendingTake.is_sound.Goals as goal

pub returns : goal.returns
returns c = pending_stands _ c.self.inside.at.seat 0 c.self.inside.at.node c.self.view_is c.self.invariant.list c.self.invariant.stand c.is_sound.ensures
