use Rattle.cc_queue.proofs.Meetings.{idle_receiver, met_stopped}
use Rattle.cc_queue.proofs.meets.ReceiverLive.meet.Goals as goal

pub returns : goal.returns
returns g c =
    let e = c.meet_seat.ensures in record {
      one = met_stopped _ _ _ c.self.view_is (idle_receiver _ c.self.invariant) e.one;
      other = e.met;
      seen = e.seen;
      longest = rw c.self.view_is at e.longest;
    }
