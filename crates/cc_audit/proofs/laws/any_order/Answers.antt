use Rattle.cc_audit.proofs.Orders.{same_verdict}
use Rattle.cc_audit.proofs.laws.any_order.Goals as goal

pub returns : goal.returns
returns c = same_verdict
