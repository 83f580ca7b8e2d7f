use Rattle.cc_model.proofs.Fresh.{empty_fresh}
use Rattle.cc_model.proofs.laws.empty_is_fresh.Goals as goal

pub returns : goal.returns
returns c = empty_fresh
