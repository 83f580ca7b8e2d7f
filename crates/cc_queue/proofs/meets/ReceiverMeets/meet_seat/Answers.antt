use Rattle.cc_queue.proofs.Meetings.{idle_receiver, met_stopped}
use Rattle.cc_queue.proofs.meets.ReceiverMeets.meet_seat.Goals as goal

pub returns-clause-met : goal.returns-clause-met
returns-clause-met c = met_stopped _ _ _ c.self.view_is (idle_receiver _ c.self.invariant) c.meet_seats.ensures.other
