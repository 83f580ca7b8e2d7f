use Rattle.cc_audit.proofs.InOrder.{first_of_both}
use Rattle.cc_audit.proofs.places.first_overrun.Goals as goal

pub returns : goal.returns
returns c = first_of_both c.args.total c.in_ok-total.total c.args.sent.now c.args.taken.now c.first_from.result c.first_from-2.result c.sooner.result c.in_ok-total.was c.sooner.ensures c.first_from.ensures c.first_from-2.ensures
