use Rattle.std.specs.Prelude.{◌≡◌, ◌≤◌, ◌+◌, length, vec_len, vec_capacity}
use Rattle.std.specs.Vec.Iter.{into_iter_items, into_iter_len}
use Rattle.cc_drive.specs.Row.{InRow}
use Rattle.cc_drive.proofs.Rows.{Paired}
use Rattle.cc_drive.proofs.threads.start_all.Given as goal

abbrev pub invariant-loop-worker : goal.invariant-loop-worker
invariant-loop-worker g l =
    ((l.place ≡ l.fn.row.first + length l.handles.items)
    × (vec_len l.handles + into_iter_len l.worker-iterator ≡ vec_len l.fn.row.workers)
    × (vec_len l.fn.row.workers ≤ vec_capacity l.handles))
    × InRow (λ n h. (h.promise.queue.value ≡ l.fn.queue) × (h.promise.brief ≡ l.fn.brief) × (h.promise.row ≡ n)) l.fn.row.first l.handles.items
    × InRow (g.J.Worker.is_ready l.fn.queue) l.place (into_iter_items l.worker-iterator)
    × Paired (λ n h j. (h.promise.queue.value ≡ l.fn.queue) × (h.promise.brief ≡ l.fn.brief) × (h.promise.row ≡ n) × (h.promise.worker.value ≡ j)) l.fn.row.first (into_iter_items l.worker-iterator) l.handles.items l.fn.row.workers.items
