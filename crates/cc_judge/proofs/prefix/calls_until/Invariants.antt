use Rattle.cc_judge.specs.Until.{IsCallUntil}
use Rattle.cc_judge.proofs.Parts.{EachTo}
use Rattle.cc_judge.proofs.prefix.calls_until.Given as goal

abbrev pub invariant-loop-place : goal.invariant-loop-place
invariant-loop-place l = EachTo (λ place whole part. IsCallUntil l.time whole part) l.calls l.part.items l.place
