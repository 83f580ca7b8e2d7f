use Rattle.std.proofs.Common.{refl}
use Rattle.cc_judge.proofs.Parts.{may_be_cut, must_be_apart}
use Rattle.cc_judge.proofs.cutting.may_cut.Goals as goal

pub returns-in-Some-clause-may : goal.returns-in-Some-clause-may
returns-in-Some-clause-may c = λ is. may_be_cut c.args.calls.now c.args.ties.now c.in-Some.list.items (c.if-not-are_short.ensures.short refl) (rw c.in-Some.is at c.in_ok-list.ensures.some) (c.are_apart.ensures.apart is)

pub returns-in-Some-clause-others : goal.returns-in-Some-clause-others
returns-in-Some-clause-others c = λ is may. c.are_apart.ensures.others is (must_be_apart c.args.calls.now c.args.ties.now c.in-Some.list.items (rw c.in-Some.is at c.in_ok-list.ensures.some) may)
