use Rattle.std.proofs.Common.{List, ◌∙◌, subst, sym}
use Rattle.cc_judge.specs.Verdict.{IsDecided, IsVerdict}
use Rattle.cc_log.specs.Answers.{Refuses}
use Rattle.cc_log.specs.Follow.{as_late, numbered, part_of}
use Rattle.cc_log.specs.Names.{Call}
use Rattle.cc_log.proofs.Following.{gives_on, part_given, shows_late}
use Rattle.cc_log.proofs.parts.judged.Goals as goal

pub returns-in_err-finish-clause-due : goal.returns-in_err-finish-clause-due
returns-in_err-finish-clause-due c = λ options spells.
    let fault = c.in_err-finish.field-0.0 in
    gives_on _ (part_of options (numbered c.args.part.now.lines.items)) c.from_residual.result fault c.from_residual.ensures.1
    (subst (Refuses fault) (sym (part_given options c.args.part.now spells)) (c.in_err-finish.ensures.due options (as_late spells.known) (shows_late options c.args.part.now.state spells.known spells.shows)))

pub returns-clause-due : goal.returns-clause-due
returns-clause-due c = λ options spells. part_given options c.args.part.now spells ∙ c.in_ok-finish.ensures.due options (as_late spells.known) (shows_late options c.args.part.now.state spells.known spells.shows)

pub returns-clause-well : goal.returns-clause-well
returns-clause-well c = λ options spells. c.in_ok-finish.ensures.well options (as_late spells.known) (shows_late options c.args.part.now.state spells.known spells.shows)

pub returns-clause-right : goal.returns-clause-right
returns-clause-right c = subst (λ (calls : List Call). IsVerdict c.finish.new.state.log.rules calls c.in_ok-judge.field-0) c.as_slice.ensures.value c.in_ok-judge.ensures.right

pub returns-clause-decided : goal.returns-clause-decided
returns-clause-decided c = subst (λ (calls : List Call). IsDecided c.finish.new.state.log.rules calls c.finish.new.state.log.items c.in_ok-judge.field-0) c.as_slice.ensures.value c.in_ok-judge.ensures.decided
