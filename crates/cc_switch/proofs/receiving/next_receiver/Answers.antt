use Rattle.std.proofs.Common.{rules, ◌<◌, length}
use Rattle.std.specs.Arc.{arc_value}
use Rattle.cc_switch.specs.Links.{done_by}
use Rattle.cc_switch.proofs.GoingOver.{two_moves, then_same, still_agreed, is_next}
use Rattle.cc_switch.proofs.receiving.next_receiver.Goals as goal

pub returns-then-done-number-clause-moves : goal.returns-then-done-number-clause-moves
returns-then-done-number-clause-moves c = two_moves c.args.group (arc_value c.args.row.now).key c.args.stages.now
    c.agree.new.stages
    c.settle.new.stages c.args.number c.args.base c.args.queue.now c.args.receiver.now c.agree.new.receiver
    c.settle.new.receiver c.args.total c.agree.ensures.moves c.settle.ensures.moves c.settle.ensures.same

pub returns-in-None-clause-moves : goal.returns-in-None-clause-moves
returns-in-None-clause-moves c = then_same c.args.group (arc_value c.args.row.now).key c.args.stages.now
    c.settle.new.stages c.receiver.new.self
    c.args.number c.args.base c.args.queue.now c.args.receiver.now c.settle.new.receiver c.args.total
    (two_moves c.args.group (arc_value c.args.row.now).key c.args.stages.now c.agree.new.stages c.settle.new.stages
    c.args.number c.args.base
    c.args.queue.now c.args.receiver.now c.agree.new.receiver c.settle.new.receiver c.args.total
    c.agree.ensures.moves c.settle.ensures.moves c.settle.ensures.same) c.receiver.ensures.same

pub returns-in-Some-clause-moves : goal.returns-in-Some-clause-moves
returns-in-Some-clause-moves c = then_same c.args.group (arc_value c.args.row.now).key c.args.stages.now
    c.settle.new.stages c.receiver.new.self
    c.args.number c.args.base c.args.queue.now c.args.receiver.now c.settle.new.receiver c.args.total
    (two_moves c.args.group (arc_value c.args.row.now).key c.args.stages.now c.agree.new.stages c.settle.new.stages
    c.args.number c.args.base
    c.args.queue.now c.args.receiver.now c.agree.new.receiver c.settle.new.receiver c.args.total
    c.agree.ensures.moves c.settle.ensures.moves c.settle.ensures.same) c.receiver.ensures.same

pub returns-in-Some-clause-next : goal.returns-in-Some-clause-next
returns-in-Some-clause-next c =
    let at = c.in-Some.ensures.at (arc_value c.args.row.now).key c.settle.ensures.moves.over.keeps in
    let later : c.args.number < length (done_by c.settle.new.stages.ended.items c.args.group) = search rules in
    is_next c.args.group (arc_value c.args.row.now).key c.settle.new.stages c.receiver.new.self c.args.number
    c.args.base c.args.queue.now
    c.settle.new.receiver c.args.total c.in-Some.next.0 c.in-Some.next.1 c.in-Some.next.2
    c.settle.ensures.moves.over c.receiver.ensures.same
    (still_agreed c.agree.new.stages c.settle.new.stages c.args.number c.args.total c.settle.ensures.links
    c.agree.ensures.agreed) later c.in-Some.ensures.of c.in-Some.ensures.ranked c.in-Some.ensures.has at.1 at.2
