-- A row with a bound. While all groups are at the last queue, the capacity of that queue is the row's. While some group is at an
-- earlier queue the row is narrow: then a send is accepted only if fewer items than the bound are in the row. A send gets Full from
-- the last queue, or by a look that finds as many items in the row as it holds. Then the row is one queue with this capacity.
use Rattle.std.specs.Prelude.{◌≡◌, ◌⊎◌, ℕ, suc, zero, ◌+◌, ◌<◌, ◌≤◌, ◌==◌, Bool, true, false, List, [], ◌∷◌, length, Option, Some}
use Rattle.cc_model.specs.Sequential.{Exactly}
use Rattle.cc_row.specs.Names.{Config, Body, Call, Answer, SendAnswer}
use Rattle.cc_row.specs.Row.{At, items_at, shut_at, taken_at, ended_at, StartsLate, before, reported_by, add}

-- a call at a queue of the row; or a send by this sender, with this number, that gets Full after a look at the counts, and is at no queue
pub data RowCall : Type 0 where
  IsAt : At → RowCall
  Refused : ℕ → ℕ → Body → RowCall

-- those at the queues
abbrev pub at_queues : List RowCall → List At
at_queues [] = []
at_queues (RowCall.IsAt e ∷ earlier) = e ∷ at_queues earlier
at_queues (RowCall.Refused sender number body ∷ earlier) = at_queues earlier

-- ---- counts

-- of these groups each has taken this many, and one no more
pub record IsSlowest (groups : ℕ) (taken : ℕ → ℕ) (all : ℕ) : Type 0 where
  pub least : (g : ℕ) → g < groups → all ≤ taken g
  pub group : ℕ
  pub inside : group < groups
  pub is : taken group ≡ all

-- how many items the group took from the queues before this one
abbrev pub taken_before : ℕ → (g : ℕ) → List At → ℕ
taken_before zero g order = 0
taken_before (suc q) g order = taken_before q g order + taken_at q g order

-- ---- the rules

-- all groups have come to the queue
abbrev pub AreTogether : (groups q : ℕ) → List At → Type 0
AreTogether groups q order = (g : ℕ) → g < groups → (k : ℕ) → k < q → ended_at k g order ≡ true

-- fewer items than the bound are in the row, for each group
abbrev pub HasRoom : (groups bound last : ℕ) → List At → Type 0
HasRoom groups bound last order = (g : ℕ) → g < groups → before (suc last) order < taken_before (suc last) g order + bound

-- as many items as the bound are in the row for some group
pub record IsCrowded (groups bound last : ℕ) (order : List At) : Type 0 where
  pub group : ℕ
  pub inside : group < groups
  pub waits : taken_before (suc last) group order + bound ≤ before (suc last) order

-- as many items as the bound are in the row for some group, and the row isn't closed
pub record IsFullRow (groups bound last : ℕ) (order : List At) : Type 0 where
  pub group : ℕ
  pub inside : group < groups
  pub waits : taken_before (suc last) group order + bound ≤ before (suc last) order
  pub open_still : shut_at last order ≡ false

-- A queue accepts an item while no group is at an earlier queue, or while the row has room. All other answers come at any time.
abbrev pub IsLetIn : (groups bound last q : ℕ) → Answer → List At → Type 0
IsLetIn groups bound last q (Answer.Send (SendAnswer.Accepted place)) order = AreTogether groups q order ⊎ HasRoom groups bound last order
IsLetIn groups bound last q _ order = Unit {0}

-- Each queue answers as a sequential queue of these groups, each call begins late enough, an item is let in by this rule, and a look finds the
-- row full.
abbrev pub IsBoundedRowBy : (LetsIn : (groups bound last q : ℕ) → Answer → List At → Type 0) → (cfg : ℕ → Config) (groups bound last : ℕ) → List RowCall → Type 0
IsBoundedRowBy LetsIn cfg groups bound last [] = Unit {0}
IsBoundedRowBy LetsIn cfg groups bound last (RowCall.IsAt e ∷ earlier) =
    IsBoundedRowBy LetsIn cfg groups bound last earlier × (e.queue ≤ last) × StartsLate e.queue e.group e.call (at_queues earlier) × LetsIn groups bound last e.queue e.answer (at_queues earlier)
    × ((all : ℕ) × IsSlowest groups (λ g. taken_at e.queue g (at_queues earlier)) all
    × Exactly (cfg e.queue) (items_at e.queue (at_queues earlier)) (shut_at e.queue (at_queues earlier)) (taken_at e.queue e.group (at_queues earlier)) all e.call e.answer)
IsBoundedRowBy LetsIn cfg groups bound last (RowCall.Refused sender number body ∷ earlier) = IsBoundedRowBy LetsIn cfg groups bound last earlier × IsFullRow groups bound last (at_queues earlier)

abbrev pub IsBoundedRow : (cfg : ℕ → Config) (groups bound last : ℕ) → List RowCall → Type 0
IsBoundedRow cfg groups bound last order = IsBoundedRowBy IsLetIn cfg groups bound last order

-- ---- seen from outside

-- the row's caller gets Full too
abbrev pub told_by : (base : ℕ) → (is_last : Bool) → Answer → Option Answer
told_by base is_last (Answer.Send SendAnswer.Full) = Some (Answer.Send SendAnswer.Full)
told_by base is_last answer = reported_by base is_last answer

-- the calls of the row with the answers that their callers get, as calls of one queue
abbrev pub told : (last : ℕ) → List RowCall → List At
told last [] = []
told last (RowCall.IsAt e ∷ earlier) = add e (told_by (before e.queue (at_queues earlier)) (e.queue == last) e.answer) (told last earlier)
told last (RowCall.Refused sender number body ∷ earlier) =
    record { queue = 0; group = 0; sender = sender; number = number; call = Call.Send body; answer = Answer.Send SendAnswer.Full } ∷ told last earlier

-- one queue of these groups, with a bound: each answer is that of a sequential queue
abbrev pub IsQueue : Config → (groups : ℕ) → List At → Type 0
IsQueue cfg groups [] = Unit {0}
IsQueue cfg groups (e ∷ earlier) =
    IsQueue cfg groups earlier × (e.queue ≡ 0)
    × ((all : ℕ) × IsSlowest groups (λ g. taken_at 0 g earlier) all × Exactly cfg (items_at 0 earlier) (shut_at 0 earlier) (taken_at 0 e.group earlier) all e.call e.answer)

-- no more items are in the row than the bound, for any group
abbrev pub IsWithin : (groups bound last : ℕ) → List At → Type 0
IsWithin groups bound last order = (g : ℕ) → g < groups → before (suc last) order ≤ taken_before (suc last) g order + bound

-- From outside, a row with a bound is one queue with this capacity, and no more items are in it. An order's earlier calls are such an
-- order too, so this is said of each moment.
abbrev pub BoundedRowsAreQueues : Type 0
BoundedRowsAreQueues = (cfg : ℕ → Config) (one : Config) (groups last : ℕ) (order : List RowCall) → ((q : ℕ) → (cfg q).capacity ≡ one.capacity)
    → IsBoundedRow cfg groups one.capacity last order → length order ≤ one.life → IsQueue one groups (told last order) × IsWithin groups one.capacity last (at_queues order)
