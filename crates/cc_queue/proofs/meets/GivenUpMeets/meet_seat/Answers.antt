use Rattle.cc_queue.proofs.Meetings.{met_stopped}
use Rattle.cc_queue.proofs.meets.GivenUpMeets.meet_seat.Goals as goal

pub returns-clause-met : goal.returns-clause-met
returns-clause-met c = met_stopped _ _ _ c.self.view_is c.self.invariant.stopped c.meet_seats.ensures.other
