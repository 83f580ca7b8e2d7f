use Rattle.std.proofs.Common.{refl}
use Rattle.cc_judge.proofs.exploring.may_explore.Goals as goal

pub returns-then-all_touch-clause-touch : goal.returns-then-all_touch-clause-touch
returns-then-all_touch-clause-touch c = λ so. c.if-all_touch.ensures.touch refl
