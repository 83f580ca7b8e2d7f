-- Wrong rules of the bound: items that are let in though the row is narrow, or by the count of the last queue alone;
-- and a look that returns Full though the row is closed. From outside none is one queue.
use Rattle.std.specs.Prelude.{◌≡◌, ◌⊎◌, ℕ, suc, ◌+◌, ◌<◌, ◌≤◌, List, [], ◌∷◌, length}
use Rattle.cc_row.specs.Names.{Config, Body, Answer, SendAnswer, CloseAnswer}
use Rattle.cc_row.specs.Row.{At, items_at, taken_at}
use Rattle.cc_row.specs.SmallRows.{send, close}
use Rattle.cc_row.specs.Bound.{RowCall, at_queues, AreTogether, IsCrowded, IsFullRow, IsBoundedRow, IsBoundedRowBy, IsLetIn, told, IsQueue}

-- an item is let in at any time
abbrev pub LetsAll : (groups bound last q : ℕ) → Answer → List At → Type 0
LetsAll groups bound last q answer order = Unit {0}

-- an item is let in by the count of its own queue
abbrev pub LetsByLast : (groups bound last q : ℕ) → Answer → List At → Type 0
LetsByLast groups bound last q (Answer.Send (SendAnswer.Accepted place)) order = AreTogether groups q order ⊎ ((g : ℕ) → g < groups → length (items_at q order) < taken_at q g order + bound)
LetsByLast groups bound last q _ order = Unit {0}

-- a row by this rule is one queue with the bound
abbrev pub IsOneBoundedQueueBy : (LetsIn : (groups bound last q : ℕ) → Answer → List At → Type 0) → Type 0
IsOneBoundedQueueBy LetsIn = (cfg : ℕ → Config) (one : Config) (groups last : ℕ) (order : List RowCall) → ((q : ℕ) → (cfg q).capacity ≡ one.capacity) → IsBoundedRowBy LetsIn cfg groups one.capacity last order → length order ≤ one.life
    → IsQueue one groups (told last order)

-- the newest call first: two items in a row of one place
abbrev pub crowded : List RowCall
crowded = RowCall.IsAt (send 1 2 (SendAnswer.Accepted 0)) ∷ RowCall.IsAt (close 0 (CloseAnswer.Shut 1)) ∷ RowCall.IsAt (send 0 1 (SendAnswer.Accepted 0)) ∷ []

-- with one look more that returns Full by this rule, a row is one queue with the bound
abbrev pub LooksFitBy : (IsFull : (groups bound last : ℕ) → List At → Type 0) → Type 0
LooksFitBy IsFull = (cfg : ℕ → Config) (one : Config) (groups last : ℕ) (order : List RowCall) (sender number : ℕ)
    (body : Body) → ((q : ℕ) → (cfg q).capacity ≡ one.capacity) → IsBoundedRow cfg groups one.capacity last order
    → IsFull groups one.capacity last (at_queues order) → suc (length order) ≤ one.life
    → IsQueue one groups (told last (RowCall.Refused sender number body ∷ order))

-- the newest call first: a row of one place, full and closed
abbrev pub closed : List RowCall
closed = RowCall.IsAt (close 0 (CloseAnswer.Shut 1)) ∷ RowCall.IsAt (send 0 1 (SendAnswer.Accepted 0)) ∷ []

pub record WrongBounds : Type 0 where
  pub right : IsOneBoundedQueueBy IsLetIn
  pub all_is_none : IsOneBoundedQueueBy LetsAll → ⊥
  pub last_is_none : IsOneBoundedQueueBy LetsByLast → ⊥
  pub looks_fit : LooksFitBy IsFullRow
  pub closed_is_none : LooksFitBy IsCrowded → ⊥
