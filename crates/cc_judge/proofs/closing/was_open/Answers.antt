use Rattle.std.proofs.Common.{sym, ◌∙◌}
use Rattle.cc_judge.proofs.Judging.{open_taken, not_open}
use Rattle.cc_judge.proofs.closing.was_open.Goals as goal

pub returns-in-None-end-clause-open : goal.returns-in-None-end-clause-open
returns-in-None-end-clause-open c = λ some. open_taken c.args.calls.now c.args.index.now c.args.send c.in-Send.item c.in-Some.call c.place_in.result c.requires.index c.requires.written c.in-Some.ensures.some c.in-Send.is c.place_in.ensures.some (sym c.is_some-in-None-end.ensures ∙ some)

pub returns-in-None-end-clause-others : goal.returns-in-None-end-clause-others
returns-in-None-end-clause-others c = λ none. not_open c.args.calls.now c.args.index.now c.args.send c.in-Send.item c.in-Some.call c.place_in.result c.requires.index c.in-Some.ensures.some c.in-Send.is c.in-None-end.is c.place_in.ensures.none (sym c.is_some-in-None-end.ensures ∙ none)
