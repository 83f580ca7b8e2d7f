-- Orders with looks: a look changes nothing at the queues.
use Rattle.std.proofs.Common.{◌≡◌, ℕ, List, [], ◌∷◌, ◌++◌, map, refl, sym, ap, ◌∙◌, append-nil}
use Rattle.cc_runs.specs.Linearizable.{Effect}
use Rattle.cc_row.specs.Queues.{AtQueue}
use Rattle.cc_row.specs.Runs.{flat}
use Rattle.cc_row.specs.Threads.{RowEvent, moves_of}
use Rattle.cc_row.specs.BoundQueues.{RowEffect, effects_in}
use Rattle.cc_row.specs.BoundedRuns.{Sent, refused, with_looks}
use Rattle.cc_row.proofs.Merge.{head, put, cut, merge}

pub effects_at : (l : List AtQueue) → effects_in (map RowEffect.At l) ≡ l
effects_at [] = refl
effects_at (e ∷ l) = ap (λ (z : List AtQueue). e ∷ z) (effects_at l)

pub effects_front : (l : List AtQueue) (more : List RowEffect)
    → effects_in (map RowEffect.At l ++ more) ≡ l ++ effects_in more
effects_front [] more = refl
effects_front (e ∷ l) more = ap (λ (z : List AtQueue). e ∷ z) (effects_front l more)

pub effects_refused : (l : List Sent) (more : List RowEffect) → effects_in (refused l ++ more) ≡ effects_in more
effects_refused [] more = refl
effects_refused (x ∷ l) more = effects_refused l more

-- looks change nothing at the queues
pub looks_none : (looks : List RowEvent → List Sent) (events : List RowEvent) (f : ℕ → List (List Effect))
    → effects_in (with_looks looks events (merge (moves_of events) f)) ≡ flat (merge (moves_of events) f)
looks_none looks [] f = ap effects_in (sym (append-nil (refused (looks [])))) ∙ effects_refused (looks []) []
looks_none looks (RowEvent.Moves m ∷ earlier) f =
    effects_refused (looks (RowEvent.Moves m ∷ earlier)) _
    ∙ effects_front (put m.at (head (f m.at))) (with_looks looks earlier (merge (moves_of earlier) (cut m.at f)))
    ∙ ap (λ (z : List AtQueue). put m.at (head (f m.at)) ++ z) (looks_none looks earlier (cut m.at f))
looks_none looks (e ∷ earlier) f =
    effects_refused (looks (e ∷ earlier)) _ ∙ looks_none looks earlier f
