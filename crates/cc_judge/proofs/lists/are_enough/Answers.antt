use Rattle.std.proofs.Common.{leb-true, leb-false, arith}
use Rattle.cc_judge.proofs.Sweeping.{enough_so}
use Rattle.cc_judge.proofs.lists.are_enough.Goals as goal

pub returns : goal.returns
returns c = λ rules calls l. enough_so rules calls c.args.lists.now c.before-2.result c.upto.result c.args.sent c.args.began _ l c.before-2.ensures c.upto.ensures (leb-true _ _) (λ more. let not_few = leb-false _ _ more in omega (arith, not_few))
