use Rattle.std.proofs.Common.{ℕ}
use Rattle.cc_judge.specs.Names.{Act}
use Rattle.cc_judge.specs.Sweeps.{IsPair, KeepsTurn}
use Rattle.cc_judge.proofs.Judging.{one_more, within, same_pair}
use Rattle.cc_judge.proofs.overtaking.turn_fault.Goals as goal
use Rattle.cc_judge.proofs.overtaking.turn_fault.Goals.{in-Some+in_ok-fault+in_default-2, in_default}

pub loop-take-preserved : goal.loop-take-preserved
loop-take-preserved c = λ log l send take begin end below pair. one_more (λ k. (send begin end : ℕ) → IsPair c.args.calls.now send k begin end → KeepsTurn log c.args.calls.now begin end) c.loop-take.take (λ k less send begin end pair. c.loop-take.invariant log l send k begin end less pair) (λ send begin end pair.
    elim c.match-pair_of.branch [
      | in-Some+in_ok-fault+in_default-2 w ↦ same_pair log c.args.calls.now c.args.index.now _ send _ c.loop-take.take _ begin _ end c.requires.index w.in-Some.ensures.same w.in-Some.ensures.some pair (rw w.in_default-2.is at w.in_ok-fault.ensures.none log c.args.calls.now l)
      | in_default w ↦ absurd (w.in_default.ensures.none send pair.item pair.sent pair.took)
    ]) take below send begin end pair

pub returns-clause-none : goal.returns-clause-none
returns-clause-none c = λ log l send take begin end pair. c.loop-take.invariant log l send take begin end (within c.args.calls.now (Act.Took pair.item) c.loop-take.take take c.loop-take-test.false pair.took) pair
