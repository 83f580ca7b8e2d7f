use Rattle.std.proofs.Common.{below_more}
use Rattle.cc_audit.proofs.places.first_from.Goals as goal

pub loop-place-preserved : goal.loop-place-preserved
loop-place-preserved c = below_more _ _ c.loop-place.invariant c.if-bound-place.false
