-- Runs whose threads keep the rules of the bound, at each moment: sends that have exchanged and have no answer, and takes that are counted
-- before their answers are decided.
use Rattle.std.specs.Prelude.{◌≡◌, ◌⊎◌, ℕ, suc, ◌+◌, ◌<◌, ◌≤◌, List, [], ◌∷◌, length}
use Rattle.cc_model.specs.Items.{handed}
use Rattle.cc_runs.specs.Ready.{HasOpenCall}
use Rattle.cc_runs.specs.Counts.{counted_for}
use Rattle.cc_row.specs.Names.{Call, Entry, Answer, Chain}
use Rattle.cc_row.specs.Threads.{RowEvent, RowSetting, IsKept, last_of, queue_of}
use Rattle.cc_row.specs.BoundThreads.{queue_at, accepted_below, handed_below, counted_below, HasBound, HaveCome, KeepBound}

abbrev pub sends_of : Call → ℕ
sends_of (Call.Send body) = 1
sends_of Call.Close = 0
sends_of Call.Take = 0

-- how many of these calls are sends that have no answer
abbrev pub waiting : List Entry → List Answer → ℕ
waiting [] answers = 0
waiting (e ∷ calls) [] = sends_of e.call + waiting calls []
waiting (e ∷ calls) (a ∷ answers) = waiting calls answers

-- at a queue, of the calls that have exchanged
abbrev pub waiting_at : RowSetting → (q : ℕ) → List RowEvent → ℕ
waiting_at r q events = waiting (queue_at r q events).history.sends.calls (queue_at r q events).history.sends.answers

-- While a group is at an earlier queue, each send that has exchanged at the last queue has room, by the takes that are counted.
abbrev pub WaitingSendsHaveRoom : Type 0
WaitingSendsHaveRoom = (r : RowSetting) (groups bound : ℕ) (events : List RowEvent) → HasBound r groups bound → IsKept r events
    → KeepBound r groups bound events → HaveCome groups (last_of events) events
    ⊎ ((g : ℕ) → g < groups → accepted_below r (suc (last_of events)) events + waiting_at r (last_of events) events
    ≤ counted_below r (suc (last_of events)) g events + bound)

-- one take of the group more is counted than is decided; it is an open call at the queue that the group is at
abbrev pub IsOneAhead : RowSetting → (g : ℕ) → List RowEvent → Type 0
IsOneAhead r g events =
    (counted_below r (suc (last_of events)) g events ≡ suc (handed_below r (suc (last_of events)) g events))
    × (counted_for (queue_at r (queue_of g events) events) g ≡ suc (length (handed (queue_at r (queue_of g events) events).history g)))
    × HasOpenCall (queue_at r (queue_of g events) events).history (Chain.Take g)

-- The takes of a group that are counted are those that are decided, or one more.
abbrev pub CountedTakesAreOpen : Type 0
CountedTakesAreOpen = (r : RowSetting) (groups bound : ℕ) (events : List RowEvent) → HasBound r groups bound → IsKept r events
    → (g : ℕ) → g < groups
    → (counted_below r (suc (last_of events)) g events ≡ handed_below r (suc (last_of events)) g events) ⊎ IsOneAhead r g events
