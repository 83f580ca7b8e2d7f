use Rattle.cc_judge.proofs.Rooms.{fewer_so, not_full_so}
use Rattle.cc_judge.proofs.room.is_not_full.Goals as goal

pub returns-in-Some-clause-so : goal.returns-in-Some-clause-so
returns-in-Some-clause-so c = λ rules capacity is.
    let t = c.in-Some.times in
    not_full_so rules c.args.calls.now c.args.place c.args.rooms.now.number t.begin t.end capacity c.in-Some.ensures.some (c.are_fewer.ensures.fewer c.args.calls.now c.requires is)

pub returns-in-Some-clause-not : goal.returns-in-Some-clause-not
returns-in-Some-clause-not c = λ rules capacity is full.
    let t = c.in-Some.times in
    c.are_fewer.ensures.more c.args.calls.now c.requires is (fewer_so rules c.args.calls.now c.args.place c.args.rooms.now.number t.begin t.end capacity c.in-Some.ensures.some full)

pub returns-in-None-clause-not : goal.returns-in-None-clause-not
returns-in-None-clause-not c = λ rules capacity is full. c.in-None.ensures.none full.begin full.end full.full
