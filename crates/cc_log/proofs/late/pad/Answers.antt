use Rattle.std.proofs.Common.{◌≡◌, ◌++◌, ◌+◌, ◌∙◌, suc, ap, append_assoc, false, slice_get, unwrap_or, arith}
use Rattle.cc_judge.specs.Late.{lacking, padding}
use Rattle.cc_log.proofs.late.pad.Goals as goal

pub loop-item-preserved : goal.loop-item-preserved
loop-item-preserved c =
    let s = c.in_ok-sent.sent.items in
    let t = c.in_ok-taken.taken.items in
    let n = c.loop-item.item in
    let old = c.args.calls.now.items in
    let e : suc n ≡ n + 1 = omega arith in
    c.in_ok-push_lacking.ensures.calls
    ∙ ap (λ l. l ++ lacking c.is_marked-is_sent.result c.is_marked-is_taken.result n) c.loop-item.invariant
    ∙ append_assoc old (padding s t n) (lacking c.is_marked-is_sent.result c.is_marked-is_taken.result n)
    ∙ ap (λ b. old ++ (padding s t n ++ lacking b c.is_marked-is_taken.result n)) c.is_marked-is_sent.ensures
    ∙ ap (λ b. old ++ (padding s t n ++ lacking (unwrap_or (slice_get s n) false) b n)) c.is_marked-is_taken.ensures
    ∙ ap (λ k. old ++ padding s t k) e
