use Rattle.cc_broker.proofs.Doubles.{double_at, none_more}
use Rattle.cc_broker.proofs.names.is_double.Goals as goal

pub returns-then-eq : goal.returns-then-eq
returns-then-eq c = double_at c.args.topics.now c.loop-before.before c.args.place _ c.eq.result c.loop-before-test.true c.requires.within c.eq.ensures c.if-eq.true

pub loop-before-preserved : goal.loop-before-preserved
loop-before-preserved c = none_more c.args.topics.now c.loop-before.before c.args.place _ c.eq.result c.loop-before-test.true c.requires.within c.eq.ensures c.if-eq.false c.loop-before.invariant
