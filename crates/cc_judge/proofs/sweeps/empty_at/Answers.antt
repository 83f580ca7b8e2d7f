use Rattle.cc_judge.proofs.sweeps.empty_at.Goals as goal

pub returns-in-Free : goal.returns-in-Free
returns-in-Free c = λ rules calls l. let free = c.in-Free.ensures.reaches rules calls l in (c.loop-time.invariant.0, c.loop-time-test.true, free.0, free.1)
