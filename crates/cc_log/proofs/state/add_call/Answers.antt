use Rattle.std.proofs.Common.{◌∙◌, sym}
use Rattle.serde_json.specs.View.{view}
use Rattle.cc_log.specs.State.{entry_in}
use Rattle.cc_log.proofs.Steps.{step_of_call, step_of_none}
use Rattle.cc_log.proofs.state.add_call.Goals as goal

pub returns : goal.returns
returns c = λ options known shows.
    step_of_call options c.args.state.now c.add.new.state known c.args.number (view c.args.tree.now) (entry_in c.args.number c.in_ok-parsed.parsed) c.in-Some.line c.has_close-state.result c.add.result shows
    c.has_close-state.ensures c.in_ok-parsed.ensures (sym c.cut.ensures ∙ c.in-Some.is) c.add.ensures

pub returns-in_default : goal.returns-in_default
returns-in_default c = λ options known shows.
    step_of_none options c.args.state.now known c.args.number (view c.args.tree.now) (entry_in c.args.number c.in_ok-parsed.parsed) c.has_close-state.result shows
    c.has_close-state.ensures c.in_ok-parsed.ensures (sym c.cut.ensures ∙ c.in_default.is)
