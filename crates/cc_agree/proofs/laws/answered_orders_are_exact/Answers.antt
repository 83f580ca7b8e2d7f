use Rattle.cc_agree.proofs.Exact as exact
use Rattle.cc_agree.proofs.laws.answered_orders_are_exact.Goals as goal

pub returns : goal.returns
returns c = exact.answered_orders_are_exact
