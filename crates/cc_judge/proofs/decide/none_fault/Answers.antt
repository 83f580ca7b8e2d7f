use Rattle.cc_judge.proofs.decide.none_fault.Goals as goal

pub returns-in_ok-stays_of-in-Some-clause-some : goal.returns-in_ok-stays_of-in-Some-clause-some
returns-in_ok-stays_of-in-Some-clause-some c = λ rules l at. (c.in-Some.ensures.some rules l at, c.in_ok-stays_of-in-Some.ensures rules l)
