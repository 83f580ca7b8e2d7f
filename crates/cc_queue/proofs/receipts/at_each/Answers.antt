use Rattle.std.proofs.Common.{refl}
use Rattle.std.proofs.lemmas.Fn.{says_at}
use Rattle.std.specs.Fn.{FnReturnsAt}
use Rattle.cc_queue.proofs.Held.{one_more}
use Rattle.cc_queue.proofs.receipts.at_each.Goals as goal

pub loop-pass-preserved : goal.loop-pass-preserved
loop-pass-preserved g c = one_more (λ p. FnReturnsAt g.F.Fn c.args.call p tt) c.args.passes.now c.loop-pass.pass-index c.pass-item.result c.loop-pass-test.true c.pass-item.is (says_at g.F.Fn c.call.ensures refl) c.loop-pass.invariant
