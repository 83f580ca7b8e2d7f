use Rattle.cc_judge.specs.Names.{Kind}
use Rattle.cc_judge.proofs.Judging.{never_past, not_twice, taken_twice_so}
use Rattle.cc_judge.proofs.Deciding.{none_past}
use Rattle.cc_judge.proofs.decide.index_of.Goals as goal

pub returns-in-Twice : goal.returns-in-Twice
returns-in-Twice c = absurd (not_twice c.args.calls.now _ _ c.requires.differ (rw c.in-Twice.is at c.in_ok-sends.ensures.found))

pub returns-in-Stray : goal.returns-in-Stray
returns-in-Stray c = absurd (none_past c.args.calls.now c.args.items _ Kind.Send (rw c.in-Stray.is at c.in_ok-sends.ensures.found) (rw c.in-Stray.is at c.in_ok-sends.ensures.past) (c.requires.below _))

pub returns-in-Twice-2 : goal.returns-in-Twice-2
returns-in-Twice-2 c = λ rules. taken_twice_so c.args.calls.now _ _ c.requires.written (rw c.in-Twice-2.is at c.in_ok-takes.ensures.found)

pub returns-in-Stray-2 : goal.returns-in-Stray-2
returns-in-Stray-2 c = λ rules. never_past c.args.calls.now c.args.items _ c.requires.written c.requires.below (rw c.in-Stray-2.is at c.in_ok-takes.ensures.found) (rw c.in-Stray-2.is at c.in_ok-takes.ensures.past)
