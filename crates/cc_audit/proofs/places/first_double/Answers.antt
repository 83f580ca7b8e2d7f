use Rattle.std.proofs.Common.{arith, refl}
use Rattle.cc_audit.proofs.InOrder.{first_twice, none_twice, rises_more}
use Rattle.cc_audit.proofs.places.first_double.Goals as goal

pub returns-then-place-places : goal.returns-then-place-places
returns-then-place-places c = first_twice c.args.places.now c.loop-i.i _ c.requires (omega arith) (omega arith) refl c.if-place-places.true c.loop-i.invariant

pub returns : goal.returns
returns c = none_twice c.args.places.now c.loop-i.i (omega arith) c.loop-i.invariant

pub loop-i-preserved : goal.loop-i-preserved
loop-i-preserved c = rises_more c.args.places.now c.loop-i.i _ c.requires (omega arith) (omega arith) refl c.if-place-places.false c.loop-i.invariant
