use Rattle.cc_judge.proofs.decide.judge.Goals as goal

pub verdict_by-requires-clause-differ : goal.verdict_by-requires-clause-differ
verdict_by-requires-clause-differ c = c.in_ok-apart.ensures.differ c.if-apart.true

pub verdict_by-requires-clause-below : goal.verdict_by-requires-clause-below
verdict_by-requires-clause-below c = c.in_ok-apart.ensures.below c.if-apart.true
