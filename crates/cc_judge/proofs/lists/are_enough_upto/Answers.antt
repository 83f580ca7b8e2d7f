use Rattle.std.proofs.Common.{suc, leb-true, leb-false, arith}
use Rattle.cc_judge.proofs.Sweeping.{enough_so}
use Rattle.cc_judge.proofs.lists.are_enough_upto.Goals as goal

pub returns : goal.returns
returns c = λ rules calls l. enough_so rules calls c.args.lists.now c.upto.result c.upto-2.result (suc c.args.sent) c.args.began _ l c.upto.ensures c.upto-2.ensures (leb-true _ _) (λ more. let not_few = leb-false _ _ more in omega (arith, not_few))
