use Rattle.cc_queue.proofs.Meetings.{gathered, may_more, met_more, met_of_one, of_one_more}
use Rattle.cc_queue.proofs.meets.gather.Goals as goal

pub sweep-requires-2-clause-may : goal.sweep-requires-2-clause-may
sweep-requires-2-clause-may c = may_more _ _ _ c.requires.may c.sweep.ensures.first

pub sweep-requires-2-clause-others : goal.sweep-requires-2-clause-others
sweep-requires-2-clause-others c = of_one_more _ _ _ c.sweep.ensures.first c.requires.receivers

pub sweep-requires-3-clause-may : goal.sweep-requires-3-clause-may
sweep-requires-3-clause-may c = may_more _ _ _ c.requires.may (met_more _ _ _ c.sweep.ensures.first c.sweep-2.ensures.first)

pub sweep-requires-3-clause-others : goal.sweep-requires-3-clause-others
sweep-requires-3-clause-others c = of_one_more _ _ _ (met_more _ _ _ c.sweep.ensures.first c.sweep-2.ensures.first) c.requires.given_up

-- the second round
pub sweep-requires-4-clause-may : goal.sweep-requires-4-clause-may
sweep-requires-4-clause-may c =
    let met = met_more _ _ _ c.sweep.ensures.first (met_more _ _ _ c.sweep-2.ensures.first c.sweep-3.ensures.first) in
    may_more _ _ _ c.requires.may met

pub sweep-requires-4-clause-others : goal.sweep-requires-4-clause-others
sweep-requires-4-clause-others c =
    let met = met_more _ _ _ c.sweep.ensures.first (met_more _ _ _ c.sweep-2.ensures.first c.sweep-3.ensures.first) in
    met_of_one _ _ _ _ c.sweep.auto.others met c.sweep.ensures.others c.requires.senders

pub sweep-requires-5-clause-may : goal.sweep-requires-5-clause-may
sweep-requires-5-clause-may c =
    let met = met_more _ _ _ c.sweep.ensures.first (met_more _ _ _ c.sweep-2.ensures.first (met_more _ _ _ c.sweep-3.ensures.first c.sweep-4.ensures.first)) in
    may_more _ _ _ c.requires.may met

pub sweep-requires-5-clause-others : goal.sweep-requires-5-clause-others
sweep-requires-5-clause-others c =
    let met = met_more _ _ _ c.sweep.ensures.first (met_more _ _ _ c.sweep-2.ensures.first (met_more _ _ _ c.sweep-3.ensures.first c.sweep-4.ensures.first)) in
    met_of_one _ _ _ _ c.sweep-2.auto.others met c.sweep-2.ensures.others c.requires.receivers

pub sweep-requires-6-clause-may : goal.sweep-requires-6-clause-may
sweep-requires-6-clause-may c =
    let met = met_more _ _ _ c.sweep.ensures.first (met_more _ _ _ c.sweep-2.ensures.first (met_more _ _ _ c.sweep-3.ensures.first (met_more _ _ _ c.sweep-4.ensures.first c.sweep-5.ensures.first))) in
    may_more _ _ _ c.requires.may met

pub sweep-requires-6-clause-others : goal.sweep-requires-6-clause-others
sweep-requires-6-clause-others c =
    let met = met_more _ _ _ c.sweep.ensures.first (met_more _ _ _ c.sweep-2.ensures.first (met_more _ _ _ c.sweep-3.ensures.first (met_more _ _ _ c.sweep-4.ensures.first c.sweep-5.ensures.first))) in
    met_of_one _ _ _ _ c.sweep-3.auto.others met c.sweep-3.ensures.others c.requires.given_up

pub returns : goal.returns
returns c =
    gathered _ _ _ _ _ _ _ _ _ _ _ _ _ _ _ _ c.sweep.auto.others c.sweep-2.auto.others c.sweep-3.auto.others
    c.sweep.ensures c.sweep-2.ensures c.sweep-3.ensures c.sweep-4.ensures c.sweep-5.ensures c.sweep-6.ensures
