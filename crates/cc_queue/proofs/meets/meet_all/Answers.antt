use Rattle.cc_queue.proofs.Meetings.{all_met, idle_receiver, idle_sender, may_gather, with_first}
use Rattle.cc_queue.proofs.meets.meet_all.Goals as goal

-- the first of the senders gathers the others
pub gather-requires : goal.gather-requires
gather-requires c =
    let may = may_gather _ _ _ _ _ _ _ _ c.queue.view_is c.first.view_is (idle_sender _ c.first.invariant) c.requires.senders_are c.requires.receivers_are c.requires.given_up_are c.in-Some.ensures.cases.0 in
    record { may = may.0; senders = may.1; receivers = may.2; given_up = may.3 }

pub returns-in-Some-clause-senders : goal.returns-in-Some-clause-senders
returns-in-Some-clause-senders c = all_met _ _ _ _ _ _ c.first.view_is c.in-Some.ensures.cases.0 c.gather.ensures.first c.gather.ensures.senders_met

pub returns-in-Some-clause-one : goal.returns-in-Some-clause-one
returns-in-Some-clause-one c =
    let g = c.gather in
    record { seen = g.new.first.seen; senders_have = with_first g.new.first g.new.senders g.ensures.senders_one; receivers_have = g.ensures.receivers_one; given_up_have = g.ensures.given_up_one }

-- if there is no sender, the first of the receivers
pub gather-requires-in-Some-split_first_mut : goal.gather-requires-in-Some-split_first_mut
gather-requires-in-Some-split_first_mut c =
    let may = may_gather _ _ _ _ _ _ _ _ c.queue.view_is c.first-in-Some-split_first_mut.view_is (idle_receiver _ c.first-in-Some-split_first_mut.invariant) c.requires.receivers_are c.requires.senders_are c.requires.given_up_are c.in-Some-split_first_mut.ensures.cases.0 in
    record { may = may.0; senders = may.2; receivers = may.1; given_up = may.3 }

pub returns-in-Some-split_first_mut-clause-receivers : goal.returns-in-Some-split_first_mut-clause-receivers
returns-in-Some-split_first_mut-clause-receivers c =
    let g = c.gather-in-Some-split_first_mut.ensures in
    all_met _ _ _ _ _ _ c.first-in-Some-split_first_mut.view_is c.in-Some-split_first_mut.ensures.cases.0 g.first g.receivers_met

pub returns-in-Some-split_first_mut-clause-one : goal.returns-in-Some-split_first_mut-clause-one
returns-in-Some-split_first_mut-clause-one c =
    let g = c.gather-in-Some-split_first_mut in
    record { seen = g.new.first.seen; senders_have = g.ensures.senders_one; receivers_have = with_first g.new.first g.new.receivers g.ensures.receivers_one; given_up_have = g.ensures.given_up_one }

-- if no pass is live, the first of those that were abandoned
pub gather-requires-in-Some-split_first_mut-2 : goal.gather-requires-in-Some-split_first_mut-2
gather-requires-in-Some-split_first_mut-2 c =
    let may = may_gather _ _ _ _ _ _ _ _ c.queue.view_is c.first-in-Some-split_first_mut-2.view_is c.first-in-Some-split_first_mut-2.invariant.stopped c.requires.given_up_are c.requires.senders_are c.requires.receivers_are c.in-Some-split_first_mut-2.ensures.cases.0 in
    record { may = may.0; senders = may.2; receivers = may.3; given_up = may.1 }

pub returns-in-Some-split_first_mut-2-clause-given_up : goal.returns-in-Some-split_first_mut-2-clause-given_up
returns-in-Some-split_first_mut-2-clause-given_up c =
    let g = c.gather-in-Some-split_first_mut-2.ensures in
    all_met _ _ _ _ _ _ c.first-in-Some-split_first_mut-2.view_is c.in-Some-split_first_mut-2.ensures.cases.0 g.first g.given_up_met

pub returns-in-Some-split_first_mut-2-clause-one : goal.returns-in-Some-split_first_mut-2-clause-one
returns-in-Some-split_first_mut-2-clause-one c =
    let g = c.gather-in-Some-split_first_mut-2 in
    record { seen = g.new.first.seen; senders_have = g.ensures.senders_one; receivers_have = g.ensures.receivers_one; given_up_have = with_first g.new.first g.new.given_up g.ensures.given_up_one }
