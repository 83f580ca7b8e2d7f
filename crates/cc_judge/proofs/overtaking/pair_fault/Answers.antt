use Rattle.cc_judge.proofs.Judging.{took_over_so, left_stay_so}
use Rattle.cc_judge.proofs.overtaking.pair_fault.Goals as goal
use Rattle.cc_judge.proofs.overtaking.pair_fault.Goals.{in-Taken, in-Left+in_ok-stay-in-Left}

pub returns-in-None-clause-none : goal.returns-in-None-clause-none
returns-in-None-clause-none c = c.in-None.ensures

pub returns-clause-some : goal.returns-clause-some
returns-clause-some c = λ rules calls l keeps pair.
    elim c.match-passed_by.branch [
      | in-Taken w ↦ rw w.stay-is (took_over_so rules calls l.written _ _ _ _ pair _ _ keeps (w.in-Taken.ensures rules calls l))
      | in-Left+in_ok-stay-in-Left w ↦ rw w.stay-is (left_stay_so rules calls l.written _ _ _ _ pair w.in_ok-stay-in-Left.stay w.in_ok-stay-in-Left.ensures.lefts (w.in_ok-stay-in-Left.ensures.stay rules calls l) (w.in-Left.ensures rules calls l))
    ]
