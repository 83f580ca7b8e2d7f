use Rattle.std.proofs.Common.{◌≡◌, length, ◌∙◌, ap, sym, nat_eq}
use Rattle.std.proofs.lemmas.List.{length-map}
use Rattle.std.specs.HashMap.{keys}
use Rattle.cc_log.proofs.Reading.{finished_well, no_calls_given}
use Rattle.cc_log.specs.Log.{judged_ties}
use Rattle.cc_log.specs.Names.{Options}
use Rattle.cc_log.proofs.parse.finish.Goals as goal

pub returns-then-is_empty-clause-due : goal.returns-then-is_empty-clause-due
returns-then-is_empty-clause-due c = λ options known shows. no_calls_given options c.args.state.now known shows (ap (λ n. nat_eq n 0) (sym c.args.state.now.log.calls.ok.0) ∙ sym c.is_empty.ensures ∙ c.if-is_empty.true)

pub returns-clause-well : goal.returns-clause-well
returns-clause-well c = λ options known shows.
    let count : c.len-items.result ≡ length (keys c.args.state.now.items) = simp length-map c.len-items.ensures.len in
    finished_well options c.args.state.now known c.is_part-part.result c.pad.new.calls.items c.len-items.result c.judge_ties.new.ties.items c.pad.result shows count c.pad.ensures.calls (c.judge_ties.ensures ∙ ap (λ (o : Options). judged_ties o.times c.args.state.now.log.rules.ties.items) shows.options_is)
