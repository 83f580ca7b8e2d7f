use Rattle.std.proofs.Common.{◌++◌, ◌∙◌, ap}
use Rattle.cc_tests.proofs.Rounds.{turn_more}
use Rattle.cc_tests.proofs.shared_fifo.in_one.Goals as goal

pub loop-list-preserved : goal.loop-list-preserved
loop-list-preserved g c =
    c.in_ok-extend_from_slice.ensures.items ∙ ap (λ l. c.loop-list.all.items ++ l) c.deref.ensures.value
    ∙ turn_more (λ k. k.items) c.args.lists.now c.loop-list.list-index c.list-item.result c.loop-list.all.items c.loop-list-test.true c.list-item.is c.loop-list.invariant
