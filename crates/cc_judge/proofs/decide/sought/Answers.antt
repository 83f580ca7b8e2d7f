use Rattle.std.proofs.Common.{List, inl, refl, sym, length, subst, arith}
use Rattle.cc_judge.specs.Names.{Tie}
use Rattle.cc_judge.specs.Splits.{AllTouch, HaveRoom}
use Rattle.cc_judge.proofs.Parts.{clean_verdict, fault_so}
use Rattle.cc_judge.proofs.decide.sought.Goals as goal

pub returns-in-Some-clause-right : goal.returns-in-Some-clause-right
returns-in-Some-clause-right c = fault_so c.args.rules.now c.args.calls.now c.in_ok-first_fault.field-0 c.requires.differ c.in_ok-first_fault.ensures

pub returns-then-not-may_explore-clause-decided : goal.returns-then-not-may_explore-clause-decided
returns-then-not-may_explore-clause-decided c = λ undecided small. c.if-not-may_explore.ensures.others refl (subst (AllTouch c.args.calls.now) (sym c.as_slice.ensures.value) small.touch) (subst (λ (ties : List Tie). HaveRoom (length ties) c.args.calls.now) (sym c.as_slice.ensures.value) small.room)

pub explore-requires-clause-touch : goal.explore-requires-clause-touch
explore-requires-clause-touch c = subst (AllTouch c.args.calls.now) c.as_slice.ensures.value (c.if-not-may_explore.ensures.touch refl)

pub explore-requires-clause-room : goal.explore-requires-clause-room
explore-requires-clause-room c = subst (λ (ties : List Tie). HaveRoom (length ties) c.args.calls.now) c.as_slice.ensures.value (c.if-not-may_explore.ensures.room refl)

pub returns-in-Clean-clause-right : goal.returns-in-Clean-clause-right
returns-in-Clean-clause-right c = clean_verdict c.args.rules.now c.args.calls.now (rw c.in-Clean.is at c.in_ok-found.ensures.explored)

pub none_fault_of-requires-clause-fine : goal.none_fault_of-requires-clause-fine
none_fault_of-requires-clause-fine c = (rw c.in_default.is at c.in_ok-fault.ensures.none).0

pub none_fault_of-requires-clause-none : goal.none_fault_of-requires-clause-none
none_fault_of-requires-clause-none c = rw c.in-NoOrder.is at c.in_ok-found.ensures.explored

pub returns-in-NoOrder-clause-right : goal.returns-in-NoOrder-clause-right
returns-in-NoOrder-clause-right c = (inl c.none_fault_of.ensures, rw c.in-NoOrder.is at c.in_ok-found.ensures.explored)

pub returns-in-Stuck-clause-decided : goal.returns-in-Stuck-clause-decided
returns-in-Stuck-clause-decided c = λ undecided small.
    let few = small.few in
    let spent = c.in_ok-found.ensures.spent in
    let less = (rw c.in-Stuck.is at c.in_ok-found.ensures.stuck) tt in
    omega (arith, few, spent, less)
