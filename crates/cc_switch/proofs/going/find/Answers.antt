use Rattle.std.proofs.Common.{sym, ◌∙◌, ap}
use Rattle.cc_steps.specs.Topic.{Topic}
use Rattle.std.specs.Arc.{arc_value}
use Rattle.cc_switch.proofs.LinkFacts.{shut_there}
use Rattle.cc_switch.proofs.Growing.{same_again}
use Rattle.cc_switch.proofs.Onward.{stays, behind, of_one}
use Rattle.cc_switch.proofs.going.find.Goals as goal

pub shut_note-shut-requires-clause-of : goal.shut_note-shut-requires-clause-of
shut_note-shut-requires-clause-of c = λ d. let l = c.requires.left in
    let is = (shut_there (arc_value c.args._row.now).key c.args.stages.now.links.items c.args.number d l.keeps.shut
    c.requires.later).of in
    (is.0 ∙ ap (λ (z : Topic). z.table_id) (sym l.queue_is), is.1 ∙ ap (λ (z : Topic). z.setting) (sym l.queue_is))

pub heed-requires : goal.heed-requires
heed-requires c = of_one (arc_value c.args._row.now).key c.args.stages.now c.args.number c.args._base c.args.queue.now
    c.args.sender.now c.args._total c.requires.left c.shut_note-shut.result c.requires.later
    c.shut_note-shut.ensures.noted

pub returns-in-None-clause-moves : goal.returns-in-None-clause-moves
returns-in-None-clause-moves c = stays (arc_value c.args._row.now).key c.args.stages.now c.last_sender.new.self
    c.args.number
    c.args._base c.args.queue.now c.args.sender.now c.heed.new.self c.args._total c.requires.left c.heed.ensures.met
    (same_again c.args.stages.now c.shut_note-shut.new.self c.last_sender.new.self c.shut_note-shut.ensures.same
    c.last_sender.ensures.same)

pub returns-in-Some-clause-moves : goal.returns-in-Some-clause-moves
returns-in-Some-clause-moves c = stays (arc_value c.args._row.now).key c.args.stages.now c.last_sender.new.self
    c.args.number
    c.args._base c.args.queue.now c.args.sender.now c.heed.new.self c.args._total c.requires.left c.heed.ensures.met
    (same_again c.args.stages.now c.shut_note-shut.new.self c.last_sender.new.self c.shut_note-shut.ensures.same
    c.last_sender.ensures.same)

pub returns-in-Some-clause-behind : goal.returns-in-Some-clause-behind
returns-in-Some-clause-behind c = behind (arc_value c.args._row.now).key c.args.stages.now c.last_sender.new.self
    c.args.number
    c.args._base c.args.queue.now c.args.sender.now c.heed.new.self c.args._total c.requires.left c.heed.ensures.met
    c.shut_note-shut.result c.in-Some.next (same_again c.args.stages.now c.shut_note-shut.new.self
    c.last_sender.new.self c.shut_note-shut.ensures.same c.last_sender.ensures.same) c.requires.later
    c.shut_note-shut.ensures.noted c.heed.ensures.heeded c.in-Some.ensures.of
