use Rattle.cc_judge.specs.Names.{Kind}
use Rattle.cc_judge.proofs.NoOrder.{differ}
use Rattle.cc_judge.proofs.Judging.{not_twice}
use Rattle.cc_judge.proofs.Deciding.{none_past}
use Rattle.cc_judge.proofs.decide.do_differ.Goals as goal

pub returns-in-Twice-clause-others : goal.returns-in-Twice-clause-others
returns-in-Twice-clause-others c = λ so apart below. not_twice c.args.calls.now _ _ apart (rw c.in-Twice.is at c.in_ok-sends.ensures.found)

pub returns-in-Stray-clause-others : goal.returns-in-Stray-clause-others
returns-in-Stray-clause-others c = λ so apart below. none_past c.args.calls.now c.args.items _ Kind.Send (rw c.in-Stray.is at c.in_ok-sends.ensures.found) (rw c.in-Stray.is at c.in_ok-sends.ensures.past) (below _)

pub returns-clause-differ : goal.returns-clause-differ
returns-clause-differ c = λ so. differ c.args.calls.now c.in-Each.sends.items (rw c.in-Each.is at c.in_ok-sends.ensures.found)

pub returns-clause-below : goal.returns-clause-below
returns-clause-below c = λ so. rw c.in-Each.is at c.in_ok-sends.ensures.past
