use Rattle.std.proofs.Common.{ℕ}
use Rattle.cc_judge.specs.Names.{Act}
use Rattle.cc_judge.specs.Faults.{Did}
use Rattle.cc_judge.specs.Sweeps.{WasSent}
use Rattle.cc_judge.proofs.Judging.{one_more, within, was_sent}
use Rattle.cc_judge.proofs.overtaking.take_fault.Goals as goal
use Rattle.cc_judge.proofs.overtaking.take_fault.Goals.{in-Some+in_default-item_fault, in_default}

pub loop-take-preserved : goal.loop-take-preserved
loop-take-preserved c = λ k item below did. one_more (λ k. (item : ℕ) → Did c.args.calls.now k (Act.Took item) → WasSent c.args.calls.now k item) c.loop-take.take (λ k less item did. c.loop-take.invariant k item less did) (λ item did.
    elim c.match-item_taken.branch [
      | in-Some+in_default-item_fault w ↦ was_sent c.args.calls.now c.loop-take.take w.in-Some.item item w.in-Some.ensures.some did w.in_default-item_fault.ensures.none
      | in_default w ↦ absurd (w.in_default.ensures.none item did)
    ]) k below item did

pub returns-clause-none : goal.returns-clause-none
returns-clause-none c = λ take item did. c.loop-take.invariant take item (within c.args.calls.now (Act.Took item) c.loop-take.take take c.loop-take-test.false did) did
