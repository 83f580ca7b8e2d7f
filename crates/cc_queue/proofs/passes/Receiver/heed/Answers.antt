use Rattle.cc_queue.proofs.Heeded.{heeded_so}
use Rattle.cc_queue.proofs.Meetings.{idle_receiver}
use Rattle.cc_queue.proofs.passes.Receiver.heed.Goals as goal

pub returns-clause-met : goal.returns-clause-met
returns-clause-met c = (heeded_so _ _ _ _ c.self.view_is (idle_receiver _ c.self.invariant) c.requires c.heed.ensures.looked c.is_sound.ensures).0

pub returns-clause-heeded : goal.returns-clause-heeded
returns-clause-heeded c = (heeded_so _ _ _ _ c.self.view_is (idle_receiver _ c.self.invariant) c.requires c.heed.ensures.looked c.is_sound.ensures).1
