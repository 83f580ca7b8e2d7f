use Rattle.std.proofs.Common.{arith, refl}
use Rattle.cc_audit.proofs.InOrder.{filled_more, none_left_out}
use Rattle.cc_audit.proofs.places.first_gap.Goals as goal

pub loop-place-preserved : goal.loop-place-preserved
loop-place-preserved c = filled_more c.args.taken.now c.loop-place.place-index c.loop-place.next _ c.requires (omega arith) refl (omega arith) c.loop-place.invariant

pub returns : goal.returns
returns c = none_left_out c.args.taken.now c.loop-place.place-index c.loop-place.next (omega arith) c.loop-place.invariant
