use Rattle.std.proofs.Common.{◌∙◌, sym, arith, refl, below_more}
use Rattle.cc_audit.proofs.InOrder.{lacks, has, none_unsent, first_unsent}
use Rattle.cc_audit.proofs.places.first_stranger.Goals as goal

pub returns-then-is_err : goal.returns-then-is_err
returns-then-is_err c =
    let missing = lacks c.args.sent.now _ c.binary_search.result c.binary_search.ensures.position c.requires.sent_order (sym c.is_err.ensures.value ∙ c.if-is_err.true) in
    first_unsent c.args.sent.now c.args.taken.now c.loop-place.place-index _ c.requires.taken_order (omega arith) refl missing c.loop-place.invariant

pub loop-place-preserved : goal.loop-place-preserved
loop-place-preserved c =
    below_more _ _ c.loop-place.invariant (has c.args.sent.now _ c.binary_search.result c.binary_search.ensures.position c.requires.sent_order (sym c.is_err.ensures.value ∙ c.if-is_err.false))

pub returns : goal.returns
returns c = none_unsent c.args.sent.now c.args.taken.now _ (omega arith) c.loop-place.invariant
