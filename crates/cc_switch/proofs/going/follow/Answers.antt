use Rattle.std.proofs.Common.{◌≡◌, ◌∷◌, [], sym, ◌∙◌, append-nil, subst}
use Rattle.cc_queue.specs.Met.{HasMet}
use Rattle.cc_steps.specs.Walk.{Walk}
use Rattle.std.specs.Arc.{arc_value}
use Rattle.cc_switch.specs.Going.{Moves}
use Rattle.cc_switch.proofs.Onward.{follows}
use Rattle.cc_switch.proofs.going.follow.Goals as goal

on : (P : Walk → Type 0) (v w : Walk) → w ≡ v → P v → P w
on P v w is p = subst P (sym is) p

pub returns-in-Ok-clause-moves : goal.returns-in-Ok-clause-moves
returns-in-Ok-clause-moves c = let l = c.in-Ok.ensures.links in
    on (λ (w : Walk). Moves (arc_value c.args._row.now).key c.args.stages.now c.append.new.self c.args._number
    c.args._base
    c.args._queue.now c.args.sender.now w c.args.total) c.args.sender.now c.note-shut.new.self c.note-shut.ensures.same
    (follows (arc_value c.args._row.now).key c.args.stages.now c.append.new.self c.args._number c.args._base
    c.args._queue.now
    c.args.sender.now c.args.total c.requires.left (record { shut = c.note-shut.result; next = l.0 } ∷ [])
    (subst (λ (w : Walk). HasMet w w) c.note-shut.ensures.same c.is_sound.ensures.met) l.1 c.append.ensures.ended
    (c.append.ensures.keeps (arc_value c.args._row.now).key c.requires.left.keeps))

pub returns-in-Err-clause-moves : goal.returns-in-Err-clause-moves
returns-in-Err-clause-moves c = on (λ (w : Walk). Moves (arc_value c.args._row.now).key c.args.stages.now
    c.append.new.self
    c.args._number c.args._base c.args._queue.now c.args.sender.now w c.args.total) c.args.sender.now
    c.note-shut.new.self c.note-shut.ensures.same
    (follows (arc_value c.args._row.now).key c.args.stages.now c.append.new.self c.args._number c.args._base
    c.args._queue.now
    c.args.sender.now c.args.total c.requires.left [] (subst (λ (w : Walk). HasMet w w) c.note-shut.ensures.same
    c.is_sound.ensures.met) (c.in-Err.ensures.same ∙ sym (append-nil c.args.stages.now.links.items))
    c.append.ensures.ended (c.append.ensures.keeps (arc_value c.args._row.now).key c.requires.left.keeps))
