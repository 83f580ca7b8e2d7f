use Rattle.std.specs.Prelude.{◌≡◌, ◌≤◌, ◌+◌, ◌++◌, map, true, vec_len, vec_capacity}
use Rattle.std.specs.List.{AllByRecursion}
use Rattle.std.specs.Vec.Iter.{into_iter_items, into_iter_len}
use Rattle.cc_drive.specs.Crew.{present, least_missing, in_turn, sooner}
use Rattle.cc_drive.proofs.crew.gather.Given as goal

abbrev pub invariant-loop-worker : goal.invariant-loop-worker
invariant-loop-worker g l =
    ((l.number + into_iter_len l.worker-iterator ≡ l.fn.first + vec_len l.fn.workers)
    × (vec_len l.passes + into_iter_len l.worker-iterator ≤ vec_capacity l.passes)
    × (vec_len l.passes + into_iter_len l.worker-iterator ≤ vec_len l.fn.workers)
    × (vec_capacity l.fn.passes ≤ vec_capacity l.passes))
    × (l.passes.items ++ present (map (λ d. d.pass) (into_iter_items l.worker-iterator)) ≡ present (map (λ d. d.pass) l.fn.workers.items))
    × (l.is_whole ≡ true → AllByRecursion (λ d. d.kept.is_whole ≡ true) (into_iter_items l.worker-iterator) → AllByRecursion (λ d. d.kept.is_whole ≡ true) l.fn.workers.items)
    × (l.is_whole ≡ true → l.receipts.items ++ in_turn (map (λ d. d.kept.receipts.items) (into_iter_items l.worker-iterator)) ≡ in_turn (map (λ d. d.kept.receipts.items) l.fn.workers.items))
    × (sooner l.limited (least_missing l.number (map (λ d. d.pass) (into_iter_items l.worker-iterator))) ≡ least_missing l.fn.first (map (λ d. d.pass) l.fn.workers.items))
