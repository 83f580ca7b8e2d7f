use Rattle.cc_judge.proofs.Judging.{spell_stay}
use Rattle.cc_judge.proofs.nones.held_at.Goals as goal

pub returns-then-time-until : goal.returns-then-time-until
returns-then-time-until c = λ log l spell. spell_stay log c.args.calls.now c.in-Some.field-0 l.written (rw c.in-Some.is at spell)

pub returns : goal.returns
returns c = λ rules l found. c.in_ok-stay_of_lefts.ensures.stay rules c.args.calls.now l
