use Rattle.cc_drive.proofs.Closers.{last_met, met_of, pending_of, closed_after, closes_still}
use Rattle.cc_drive.proofs.closing.close_after.Goals as goal

pub begin_close-pending-requires : goal.begin_close-pending-requires
begin_close-pending-requires c = met_of _ _ _ c.requires.closer (last_met _ _ _ _ _ _ _ c.in-Ok.ensures.items c.in-Some.ensures.items c.meet_everyone.ensures.senders c.meet_everyone.ensures.one).first

pub await_answer-requires-clause-pending : goal.await_answer-requires-clause-pending
await_answer-requires-clause-pending c =
    let met = last_met _ _ _ _ _ _ _ c.in-Ok.ensures.items c.in-Some.ensures.items c.meet_everyone.ensures.senders c.meet_everyone.ensures.one in
    pending_of _ _ _ _ (met_of _ _ _ c.requires.closer met.first) c.begin_close-pending.ensures

pub returns : goal.returns
returns c =
    let met = last_met _ _ _ _ _ _ _ c.in-Ok.ensures.items c.in-Some.ensures.items c.meet_everyone.ensures.senders c.meet_everyone.ensures.one in record {
      met = met.others;
      closed = closed_after _ _ _ _ _ _ _ c.await_answer.result met c.begin_close-pending.ensures c.await_answer.ensures.answered;
      left = closes_still _ _ _ _ _ _ _ _ c.await_answer.result met c.begin_close-pending.ensures c.new-turns.ensures c.await_answer.ensures.on c.await_answer.ensures.left;
    }
