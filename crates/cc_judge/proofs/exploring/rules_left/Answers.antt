use Rattle.cc_judge.proofs.exploring.rules_left.Goals as goal

pub returns-clause-fewer : goal.returns-clause-fewer
returns-clause-fewer c = rw c.as_slice.ensures.value at c.in_ok-ties_left.ensures.fewer
