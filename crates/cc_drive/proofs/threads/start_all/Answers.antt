use Rattle.std.proofs.Common.{rules, ◌≡◌, ◌∙◌, sym, subst}
use Rattle.cc_drive.specs.Row.{InRowWith}
use Rattle.cc_drive.proofs.Rows.{paired_first, paired_last, paired_next, row_rest, row_push}
use Rattle.cc_drive.proofs.threads.start_all.Goals as goal

pub loop-worker-init : goal.loop-worker-init
loop-worker-init g c = (search rules, search rules, search rules, paired_first _ _ _ _ _ c.into_iter-worker-iterator.ensures.into_iter_gives.0 c.requires.none)

pub loop-worker-preserved : goal.loop-worker-preserved
loop-worker-preserved g c =
    let was = c.loop-worker.invariant in
    let at = c.in-Ok.ensures.promised in (
      search rules,
      row_push (λ n h. (h.promise.queue.value ≡ c.args.queue.now) × (h.promise.brief ≡ c.args.brief) × (h.promise.row ≡ n)) _ c.loop-worker.place _ _ _ c.in-Ok-push.ensures.items was.0.0 was.1 at,
      row_rest (g.J.Worker.is_ready c.args.queue.now) _ _ _ _ c.in-Some.ensures.steps.0 was.2,
      paired_next (λ n h j. (h.promise.queue.value ≡ c.args.queue.now) × (h.promise.brief ≡ c.args.brief) × (h.promise.row ≡ n) × (h.promise.worker.value ≡ j)) _ _ _ _ _ _ _ _ c.in-Some.ensures.steps.0 c.in-Ok-push.ensures.items (at.0, at.1, at.2 ∙ was.0.0, c.in-Ok.ensures.worker) was.3,
    )

pub returns-then-is_some-clause-workers : goal.returns-then-is_some-clause-workers
returns-then-is_some-clause-workers g c = subst (λ hs. InRowWith (λ n h j. (h.promise.queue.value ≡ c.args.queue.now) × (h.promise.brief ≡ c.args.brief) × (h.promise.row ≡ n) × (h.promise.worker.value ≡ j)) c.args.row.first hs c.args.row.workers.items) (sym c.requires.none) tt

pub returns-in-Err-clause-workers : goal.returns-in-Err-clause-workers
returns-in-Err-clause-workers g c = paired_last _ _ _ _ _ c.loop-worker.invariant.3

pub returns-clause-workers : goal.returns-clause-workers
returns-clause-workers g c = paired_last _ _ _ _ _ c.loop-worker.invariant.3
