use Rattle.std.proofs.Common.{◌≡◌, List, ℕ, subst, Ok}
use Rattle.cc_log.specs.Answers.{Refuses}
use Rattle.cc_log.specs.Follow.{Grows}
use Rattle.cc_log.specs.Log.{with_line}
use Rattle.cc_log.specs.Names.{Part}
use Rattle.cc_log.proofs.Following.{grown, not_grown, passed}
use Rattle.cc_log.proofs.parts.add_text.Goals as goal

pub returns-in_err-add_line : goal.returns-in_err-add_line
returns-in_err-add_line c = λ options spells.
    let fault = c.in_err-add_line.field-0.0 in
    let new : Part = record c.args.part.now { state = c.add_line.new.state } in
    passed (Grows options c.args.part.now new (c.args.text.number, c.args.text.bytes.items)) c.from_residual.result fault c.from_residual.ensures.1
    (not_grown options c.args.part.now new c.args.text fault spells (subst (λ (t : List ℕ). Refuses fault (with_line spells.known c.args.text.number t)) c.deref.ensures.value (c.in_err-add_line.ensures options spells.known spells.shows)))

pub returns : goal.returns
returns c = λ options spells.
    let step = c.in_ok-add_line.ensures options spells.known spells.shows in
    grown options c.args.part.now _ c.args.text (Ok tt) spells (step.0, subst (λ (t : List ℕ). with_line spells.known c.args.text.number t ≡ Ok step.0) c.deref.ensures.value step.1, step.2) c.in_ok-push.ensures.items
