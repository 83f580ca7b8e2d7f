use Rattle.cc_joined.proofs.Joined.{joined_hands_in_order}
use Rattle.cc_joined.proofs.joined_hands_in_order.Goals as goal

pub returns : goal.returns
returns c = joined_hands_in_order
