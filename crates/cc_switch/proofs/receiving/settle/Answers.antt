use Rattle.std.proofs.Common.{sym, subst}
use Rattle.cc_steps.specs.Walk.{Walk}
use Rattle.std.specs.Arc.{arc_value}
use Rattle.cc_switch.specs.Receiving.{OverMoves}
use Rattle.cc_switch.proofs.GoingOver.{over_ended}
use Rattle.cc_switch.proofs.receiving.settle.Goals as goal

pub returns-then-number-done-clause-moves : goal.returns-then-number-done-clause-moves
returns-then-number-done-clause-moves c =
    subst (λ (w : Walk). OverMoves c.args._group (arc_value c.args._row.now).key c.args.stages.now c.end.new.self
    c.args.number c.args._base
    c.args._queue.now c.args.receiver.now w c.args._total) (sym c.note-note.ensures.same)
    (over_ended c.args._group (arc_value c.args._row.now).key c.args.stages.now c.end.new.self c.args.number
    c.args._base c.args._queue.now
    c.args.receiver.now c.args._total c.requires.over c.end.result c.note-note.result c.is_sound.ensures.met
    c.end.ensures.keeps c.end.ensures.links c.end.ensures.ended)
