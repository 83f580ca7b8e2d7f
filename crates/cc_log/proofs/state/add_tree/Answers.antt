use Rattle.std.proofs.Common.{◌∙◌, sym}
use Rattle.serde_json.specs.View.{view}
use Rattle.cc_log.proofs.Steps.{step_of_beginning, step_of_end, step_of_other}
use Rattle.cc_log.proofs.state.add_tree.Goals as goal

pub returns-then-is_beginning : goal.returns-then-is_beginning
returns-then-is_beginning c = λ options known shows.
    step_of_beginning options c.args.state.now known c.args.number (view c.args.tree.now) shows c.in_ok-check_goes_on.ensures (sym c.is_beginning.ensures ∙ c.if-is_beginning.true)

pub returns-in-Some : goal.returns-in-Some
returns-in-Some c = λ options known shows.
    step_of_end options c.args.state.now known c.args.number (view c.args.tree.now) c.in-Some.ends shows c.in_ok-check_goes_on.ensures
    (sym c.is_beginning.ensures ∙ c.if-is_beginning.false) (sym c.ending_in.ensures ∙ c.in-Some.is)
