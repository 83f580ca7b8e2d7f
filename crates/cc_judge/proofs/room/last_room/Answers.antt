use Rattle.cc_judge.proofs.Rooms.{no_room, some_room}
use Rattle.cc_judge.proofs.room.last_room.Goals as goal

pub returns-in-Some : goal.returns-in-Some
returns-in-Some c = λ calls rooms. some_room calls c.args.rooms.now c.upto.result c.args.time c.in-Some.last rooms (c.upto.ensures rooms.times.begun.sorted) c.in-Some.ensures

pub returns-in-None : goal.returns-in-None
returns-in-None c = λ calls rooms. no_room calls c.args.rooms.now c.upto.result c.args.time rooms (c.upto.ensures rooms.times.begun.sorted) c.in-None.ensures
