use Rattle.cc_joined.proofs.Bounded.{bounded_is_legal}
use Rattle.cc_joined.proofs.bounded_is_legal.Goals as goal

pub returns-clause-legal : goal.returns-clause-legal
returns-clause-legal c = bounded_is_legal
