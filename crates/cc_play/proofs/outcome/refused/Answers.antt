use Rattle.cc_play.specs.Outcome.{refusal_line}
use Rattle.cc_play.proofs.outcome.refused.Goals as goal

pub returns-in-NotJson-clause-told : goal.returns-in-NotJson-clause-told
unfolding refusal_line
returns-in-NotJson-clause-told g c = rw c.in-NotJson.is c.told.ensures.told

pub returns-in-Shape-clause-told : goal.returns-in-Shape-clause-told
unfolding refusal_line
returns-in-Shape-clause-told g c = rw c.in-Shape.is c.told-in-Shape.ensures.told

pub returns-in-Range-clause-told : goal.returns-in-Range-clause-told
unfolding refusal_line
returns-in-Range-clause-told g c = rw c.in-Range.is (rw c.as_bytes.ensures.value at c.refused_key.ensures.told)
