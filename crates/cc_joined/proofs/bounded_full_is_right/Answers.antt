use Rattle.cc_joined.proofs.Bounded.{full_right}
use Rattle.cc_joined.proofs.bounded_full_is_right.Goals as goal

pub returns-clause-right : goal.returns-clause-right
returns-clause-right c = full_right
