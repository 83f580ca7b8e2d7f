use Rattle.std.proofs.Common.{rules, ◌≡◌, ℕ, subst}
use Rattle.cc_steps.specs.Topic.{Topic}
use Rattle.cc_drive.specs.Names.{Brief}
use Rattle.cc_drive.proofs.Rows.{halfway_first, halfway_last, halfway_next, none_kept, one_kept}
use Rattle.cc_drive.proofs.threads.join_all.Goals as goal

pub loop-handle-init : goal.loop-handle-init
loop-handle-init g c = (
  search rules,
  λ z b first promised. none_kept (λ n h. (h.promise.queue.value ≡ z) × (h.promise.brief ≡ b) × (h.promise.row ≡ n)) (λ n d. (j : g.row.J.Denot) × g.J.Worker.gives z b n j d) first _ _ c.args.done.items c.into_iter-handle-iterator.ensures.into_iter_gives.0 c.requires.none promised,
  λ z b first workers promised. halfway_first (λ n h j. (h.promise.queue.value ≡ z) × (h.promise.brief ≡ b) × (h.promise.row ≡ n) × (h.promise.worker.value ≡ j)) (λ n d j. g.J.Worker.gives z b n j d) first _ _ c.args.done.items workers c.into_iter-handle-iterator.ensures.into_iter_gives.0 c.requires.none promised,
)

pub loop-handle-preserved : goal.loop-handle-preserved
loop-handle-preserved g c = (
  search rules,
  λ z b first promised.
      one_kept (λ n h. (h.promise.queue.value ≡ z) × (h.promise.brief ≡ b) × (h.promise.row ≡ n)) (λ n d. (j : g.row.J.Denot) × g.J.Worker.gives z b n j d) first _ _ _ _ c.in-Some.handle c.join.result c.in-Some.ensures.steps.0 c.in-Ok.ensures.items
      (λ at. (c.in-Some.handle.promise.worker.value, subst (λ (y : Topic × (Brief × ℕ)). g.J.Worker.gives y.0 y.1.0 y.1.1 c.in-Some.handle.promise.worker.value c.join.result) (λ i. (at.0 i, (at.1 i, at.2 i))) c.join.ensures)) (c.loop-handle.invariant.1 z b first promised),
  λ z b first workers promised.
      halfway_next (λ n h j. (h.promise.queue.value ≡ z) × (h.promise.brief ≡ b) × (h.promise.row ≡ n) × (h.promise.worker.value ≡ j)) (λ n d j. g.J.Worker.gives z b n j d) first _ _ _ _ workers c.in-Some.handle c.join.result c.in-Some.ensures.steps.0 c.in-Ok.ensures.items
      (λ j at. subst (λ (y : Topic × (Brief × (ℕ × g.row.J.Denot))). g.J.Worker.gives y.0 y.1.0 y.1.1.0 y.1.1.1 c.join.result) (λ i. (at.0 i, (at.1 i, (at.2 i, at.3 i)))) c.join.ensures) (c.loop-handle.invariant.2 z b first workers promised),
)

pub returns-clause-gives : goal.returns-clause-gives
returns-clause-gives g c z b first promised = (c.loop-handle.invariant.1 z b first promised).1

pub returns-clause-by_worker : goal.returns-clause-by_worker
returns-clause-by_worker g c z b first workers promised = halfway_last (λ n h j. (h.promise.queue.value ≡ z) × (h.promise.brief ≡ b) × (h.promise.row ≡ n) × (h.promise.worker.value ≡ j)) (λ n d j. g.J.Worker.gives z b n j d) first _ _ workers (c.loop-handle.invariant.2 z b first workers promised)
