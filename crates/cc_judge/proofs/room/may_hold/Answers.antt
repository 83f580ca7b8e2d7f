use Rattle.std.proofs.Common.{suc, leb-true, leb-false, arith}
use Rattle.cc_judge.specs.Counts.{Upto}
use Rattle.cc_judge.specs.Room.{HasBegun, WasTaken}
use Rattle.cc_judge.proofs.Counting.{counted}
use Rattle.cc_judge.proofs.Rooms.{enough, fewer}
use Rattle.cc_judge.proofs.room.may_hold.Goals as goal

pub returns-then-begun-gone-clause-fewer : goal.returns-then-begun-gone-clause-fewer
returns-then-begun-gone-clause-fewer c = λ calls t off.
    fewer calls c.args.begins.now.items c.args.ends.now.items t c.upto-begun.result c.before-gone.result c.args.number c.args.time (counted (Upto (HasBegun calls)) _ _ (suc c.args.time) t.begun (c.upto-begun.ensures t.begun.sorted)) (counted (WasTaken calls) _ _ c.args.time t.taken (c.before-gone.ensures t.taken.sorted)) (omega arith)

pub returns-clause-enough : goal.returns-clause-enough
returns-clause-enough c = λ calls t on.
    let le = leb-true _ _ on in
    enough calls c.args.begins.now.items c.args.ends.now.items t c.upto-begun.result c.before-gone.result c.args.number c.args.time (counted (Upto (HasBegun calls)) _ _ (suc c.args.time) t.begun (c.upto-begun.ensures t.begun.sorted)) (counted (WasTaken calls) _ _ c.args.time t.taken (c.before-gone.ensures t.taken.sorted)) (omega (arith, le))

pub returns-clause-fewer : goal.returns-clause-fewer
returns-clause-fewer c = λ calls t off.
    let more = leb-false _ _ off in
    fewer calls c.args.begins.now.items c.args.ends.now.items t c.upto-begun.result c.before-gone.result c.args.number c.args.time (counted (Upto (HasBegun calls)) _ _ (suc c.args.time) t.begun (c.upto-begun.ensures t.begun.sorted)) (counted (WasTaken calls) _ _ c.args.time t.taken (c.before-gone.ensures t.taken.sorted)) (omega (arith, more))
