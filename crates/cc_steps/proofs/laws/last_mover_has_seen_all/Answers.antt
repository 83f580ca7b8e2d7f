use Rattle.cc_steps.proofs.Longest.{last_mover}
use Rattle.cc_steps.proofs.laws.last_mover_has_seen_all.Goals as goal

pub returns : goal.returns
returns c = last_mover
