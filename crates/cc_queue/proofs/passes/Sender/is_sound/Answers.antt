use Rattle.cc_queue.proofs.Meetings.{rests_so}
use Rattle.cc_queue.proofs.passes.Sender.is_sound.Goals as goal

pub returns : goal.returns
returns c =
    let rests = rests_so _ _ _ _ c.self.view_is c.self.invariant.list c.self.invariant.stand c.is_sound.ensures in
    record { met = rests.0; rest = rests.1 }
