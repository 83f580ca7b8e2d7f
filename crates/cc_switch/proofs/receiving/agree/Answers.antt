use Rattle.std.specs.Arc.{arc_value}
use Rattle.cc_switch.proofs.GoingOver.{over_stays, of_queue, of_pass, agreed}
use Rattle.cc_switch.proofs.receiving.agree.Goals as goal

pub shut_note-shut-requires-clause-of : goal.shut_note-shut-requires-clause-of
shut_note-shut-requires-clause-of c = λ d. of_queue c.args._group (arc_value c.args._row.now).key c.args.stages.now
    c.args.number c.args._base
    c.args.queue.now c.args.receiver.now c.args.receiver.now c.args._total c.requires.over d c.requires.later

pub heed-requires : goal.heed-requires
heed-requires c = of_pass c.args._group (arc_value c.args._row.now).key c.args.stages.now c.args.number c.args._base
    c.args.queue.now
    c.args.receiver.now c.args.receiver.now c.args._total c.requires.over c.shut_note-shut.result c.requires.later
    c.shut_note-shut.ensures.noted

pub returns-clause-moves : goal.returns-clause-moves
returns-clause-moves c = over_stays c.args._group (arc_value c.args._row.now).key c.args.stages.now c.args.number
    c.args._base c.args.queue.now
    c.args.receiver.now c.heed.new.self c.args._total c.requires.over c.shut_note-shut.new.self c.heed.ensures.met
    c.shut_note-shut.ensures.same

pub returns-clause-agreed : goal.returns-clause-agreed
returns-clause-agreed c = agreed c.args._group (arc_value c.args._row.now).key c.args.stages.now c.args.number
    c.args._base c.args.queue.now
    c.args.receiver.now c.heed.new.self c.args._total c.requires.over c.shut_note-shut.new.self c.shut_note-shut.result
    c.heed.ensures.met c.shut_note-shut.ensures.same c.requires.later c.shut_note-shut.ensures.noted
    c.heed.ensures.heeded
