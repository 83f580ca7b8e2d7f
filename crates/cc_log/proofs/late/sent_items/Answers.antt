use Rattle.std.proofs.Common.{◌∙◌, ap, sym, false, None, replicate, slice_index_or}
use Rattle.std.proofs.lemmas.List.Sums.{fold_more}
use Rattle.cc_judge.specs.Late.{mark_sent}
use Rattle.cc_log.specs.Names.{Act, Call}
use Rattle.cc_log.proofs.late.sent_items.Goals as goal

pub loop-call-preserved : goal.loop-call-preserved
loop-call-preserved c =
    let first : Call = record { begin = 0; end = None; act = Act.Send 0 } in
    let call = slice_index_or c.args.calls.now c.loop-call.call-index first in
    c.mark_sent.ensures ∙ ap (λ marks. mark_sent marks call.act) c.loop-call.invariant
    ∙ sym (fold_more (λ marks (call : Call). mark_sent marks call.act) (replicate c.args.items false) c.args.calls.now c.loop-call.call-index first c.loop-call-test.true)
