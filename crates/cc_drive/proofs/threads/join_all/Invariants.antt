use Rattle.std.specs.Prelude.{ℕ, List, ◌≡◌, ◌≤◌, ◌+◌, length, vec_len, vec_capacity}
use Rattle.std.specs.Vec.Iter.{into_iter_items, into_iter_len}
use Rattle.cc_steps.specs.Topic.{Topic}
use Rattle.cc_drive.specs.Names.{Brief}
use Rattle.cc_drive.specs.Row.{InRow, InRowWith}
use Rattle.cc_drive.proofs.Rows.{Halfway}
use Rattle.cc_drive.proofs.threads.join_all.Given as goal

abbrev pub invariant-loop-handle : goal.invariant-loop-handle
invariant-loop-handle g l =
    ((vec_len l.done + into_iter_len l.handle-iterator ≡ vec_len l.fn.handles) × (vec_len l.fn.handles ≤ vec_capacity l.done))
    × ((z : Topic) (b : Brief) (first : ℕ) → InRow (λ n h. (h.promise.queue.value ≡ z) × (h.promise.brief ≡ b) × (h.promise.row ≡ n)) first l.fn.handles.items
    → InRow (λ n h. (h.promise.queue.value ≡ z) × (h.promise.brief ≡ b) × (h.promise.row ≡ n)) (first + length l.done.items) (into_iter_items l.handle-iterator) × InRow (λ n d. (j : g.row.J.Denot) × g.J.Worker.gives z b n j d) first l.done.items)
    × ((z : Topic) (b : Brief) (first : ℕ) (workers : List g.row.J.Denot) → InRowWith (λ n h j. (h.promise.queue.value ≡ z) × (h.promise.brief ≡ b) × (h.promise.row ≡ n) × (h.promise.worker.value ≡ j)) first l.fn.handles.items workers
    → Halfway (λ n h j. (h.promise.queue.value ≡ z) × (h.promise.brief ≡ b) × (h.promise.row ≡ n) × (h.promise.worker.value ≡ j)) (λ n d j. g.J.Worker.gives z b n j d) first (into_iter_items l.handle-iterator) l.done.items workers)
