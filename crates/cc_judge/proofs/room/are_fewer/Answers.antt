use Rattle.std.proofs.lemmas.Bool.{ltb-false, ltb-true}
use Rattle.cc_judge.proofs.Rooms.{as_many_within, fewer_before, fewer_none}
use Rattle.cc_judge.proofs.room.are_fewer.Goals as goal

pub returns-in-Some-clause-fewer : goal.returns-in-Some-clause-fewer
returns-in-Some-clause-fewer c = λ calls rooms is.
    let r = c.args.rooms.now in
    let l = c.in-Some.ensures calls rooms in
    fewer_before calls r.begins.items r.ends.items r.number c.args.times.begin c.args.times.end l.0 rooms.times l.1 c.in-Some.time (ltb-true _ _ is) (c.may_hold.ensures.fewer calls rooms.times c.if-may_hold.false) l.2

pub returns-in-Some-clause-more : goal.returns-in-Some-clause-more
returns-in-Some-clause-more c = λ calls rooms is few.
    let r = c.args.rooms.now in
    let l = c.in-Some.ensures calls rooms in
    as_many_within calls r.begins.items r.ends.items r.number c.args.times.begin c.args.times.end l.0 rooms.times l.1 c.in-Some.time (ltb-false _ _ is) l.2 few

pub returns-in-None-clause-fewer : goal.returns-in-None-clause-fewer
returns-in-None-clause-fewer c = λ calls rooms is.
    let r = c.args.rooms.now in
    let l = c.in-None.ensures calls rooms in
    fewer_none calls r.begins.items r.ends.items r.number c.args.times.begin c.args.times.end l.0 rooms.times l.1 (c.may_hold.ensures.fewer calls rooms.times c.if-may_hold.false) l.2

pub returns-then-may_hold-clause-more : goal.returns-then-may_hold-clause-more
returns-then-may_hold-clause-more c = λ calls rooms off few. c.may_hold.ensures.enough calls rooms.times c.if-may_hold.true few.at_begin
