use Rattle.cc_queue.proofs.Meetings.{idle_sender, met_stopped}
use Rattle.cc_queue.proofs.meets.SenderMeets.meet_seat.Goals as goal

pub returns-clause-met : goal.returns-clause-met
returns-clause-met c = met_stopped _ _ _ c.self.view_is (idle_sender _ c.self.invariant) c.meet_seats.ensures.other
