use Rattle.cc_model.proofs.Fresh.{full_fresh}
use Rattle.cc_model.proofs.laws.full_is_fresh.Goals as goal

pub returns : goal.returns
returns c = full_fresh
