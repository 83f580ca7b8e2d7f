use Rattle.cc_judge.proofs.NoOrder.{differ}
use Rattle.cc_judge.proofs.Rooms.{times_of}
use Rattle.cc_judge.proofs.Crowding.{at_open, opened}
use Rattle.cc_judge.proofs.room.full_fault.Goals as goal

pub first_not_full-requires : goal.first_not_full-requires
first_not_full-requires c =
    let rules = c.args.rules.now in
    let calls = c.args.calls.now in
    let at = at_open rules calls in
    let times = times_of rules calls _ _ (differ calls c.args.index.now.sends.items c.requires.index.sends) c.requires.none (c.in_ok-begins.ensures (opened rules) at) (c.in_ok-ends.ensures (opened rules) at) in
    record { times = times; last = c.in_ok-last.ensures.last calls times; long = c.in_ok-last.ensures.long }

pub returns-clause-none : goal.returns-clause-none
returns-clause-none c = c.in-None.ensures.none c.args.rules.now c.in-Some.ensures.some
