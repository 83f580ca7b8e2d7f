-- How threads keep the bound of a row. A send begins at the last queue once no group is at an earlier one, or after a look that finds room, while no
-- other thread sends or closes there. A look loads how many items the last queue has accepted, and then how many each group has taken.
use Rattle.std.specs.Prelude.{◌≡◌, ◌⊎◌, ℕ, zero, suc, ◌+◌, ◌<◌, ◌≤◌, List, [], ◌∷◌, ◌++◌, length}
use Rattle.cc_model.specs.Items.{accepted, handed}
use Rattle.cc_runs.specs.State.{State, chain_of}
use Rattle.cc_runs.specs.Run.{IsIdle, reached}
use Rattle.cc_runs.specs.Counts.{counted, counted_for}
use Rattle.cc_row.specs.Names.{Call, Chain, Setting, Move}
use Rattle.cc_row.specs.Threads.{RowEvent, RowSetting, IsKept, moves_there, last_of, queue_of}

-- a queue of the row after some events
abbrev pub queue_at : RowSetting → (q : ℕ) → List RowEvent → State
queue_at r q events = reached (r.of q) (moves_there q events)

-- how many items the queues before this one accepted
abbrev pub accepted_below : RowSetting → ℕ → List RowEvent → ℕ
accepted_below r zero events = 0
accepted_below r (suc q) events = accepted_below r q events + length (accepted (queue_at r q events).history)

-- how many of them were handed to the group, by answers that are decided
abbrev pub handed_below : RowSetting → ℕ → (group : ℕ) → List RowEvent → ℕ
handed_below r zero g events = 0
handed_below r (suc q) g events = handed_below r q g events + length (handed (queue_at r q events).history g)

-- how many of them are counted as taken by the group: one take of it may be counted before its answer is decided
abbrev pub counted_below : RowSetting → ℕ → (group : ℕ) → List RowEvent → ℕ
counted_below r zero g events = 0
counted_below r (suc q) g events = counted_below r q g events + counted_for (queue_at r q events) g

-- the queues of the row have these groups, by their own numbers, and this capacity
pub record HasBound (r : RowSetting) (groups bound : ℕ) : Type 0 where
  pub some : 0 < groups
  pub room : 0 < bound
  pub groups_are : (q : ℕ) → (r.of q).config.groups ≡ groups
  pub capacity_is : (q : ℕ) → (r.of q).config.capacity ≡ bound
  pub names_are : (q g : ℕ) → r.names q g ≡ g

-- ---- a look that finds the row full

-- When the events were `seen`, a thread loaded how many items a queue had accepted, and later, after the events `between`, how many of a queue were
-- taken by a group: of the same queue, or of the one that the group was at. It finds as many items as the bound, or more.
pub record FindsFull (r : RowSetting) (groups bound : ℕ) (between seen : List RowEvent) : Type 0 where
  pub queue : ℕ
  pub there : queue ≤ last_of seen
  pub group : ℕ
  pub inside : group < groups
  pub from : ℕ
  pub which : (from ≡ queue) ⊎ (queue_of group (between ++ seen) ≡ from)
  pub finds : accepted_below r from (between ++ seen) + counted_for (queue_at r from (between ++ seen)) group + bound ≤ accepted_below r queue seen + counted (queue_at r queue seen)

-- the row has as many items as the bound for some group
pub record IsFullAt (r : RowSetting) (groups bound : ℕ) (events : List RowEvent) : Type 0 where
  pub group : ℕ
  pub inside : group < groups
  pub waits : handed_below r (suc (last_of events)) group events + bound ≤ accepted_below r (suc (last_of events)) events

-- Then the row was full when the look began.
abbrev pub LooksFindFullRows : Type 0
LooksFindFullRows = (r : RowSetting) (groups bound : ℕ) (between seen : List RowEvent) → HasBound r groups bound → IsKept r (between ++ seen) → FindsFull r groups bound between seen → IsFullAt r groups bound seen

-- ---- the rules of the bound

-- no group is at an earlier queue
abbrev pub HaveCome : (groups q : ℕ) → List RowEvent → Type 0
HaveCome groups q events = (g : ℕ) → g < groups → q ≤ queue_of g events

-- no sender has a call at the queue
abbrev pub NoSenderCalls : RowSetting → (q : ℕ) → List RowEvent → Type 0
NoSenderCalls r q events = (p : ℕ) → chain_of (r.of q).config p ≡ Chain.Send → IsIdle ((queue_at r q events).stand p).phase

-- the move is the begin of a sender's call
abbrev pub IsBeginOn : Setting → Move → Type 0
IsBeginOn c (Move.Begin p call known) = chain_of c.config p ≡ Chain.Send
IsBeginOn c (Move.Step p) = ⊥
IsBeginOn c (Move.Take p) = ⊥

-- at this queue
abbrev pub IsSendersBegin : RowSetting → (q : ℕ) → RowEvent → Type 0
IsSendersBegin r q (RowEvent.Moves m) = (m.at ≡ q) × IsBeginOn (r.of q) m.move
IsSendersBegin r q _ = ⊥

abbrev pub NoneBegins : RowSetting → (q : ℕ) → List RowEvent → Type 0
NoneBegins r q [] = Unit {0}
NoneBegins r q (e ∷ later) = NoneBegins r q later × (IsSendersBegin r q e → ⊥)

-- what a look finds of one group, at a moment after the load of `accepted`
pub record FindsRoom (r : RowSetting) (bound q g : ℕ) (since seen : List RowEvent) : Type 0 where
  pub after : List RowEvent
  pub between : List RowEvent
  pub split : since ≡ after ++ between
  pub finds : accepted_below r q seen + counted (queue_at r q seen)
      < accepted_below r (queue_of g (between ++ seen)) (between ++ seen) + counted_for (queue_at r (queue_of g (between ++ seen)) (between ++ seen)) g + bound

-- A thread has looked at the last queue while nobody sent there, has found room for each group, and nobody began to send since.
pub record HasLooked (r : RowSetting) (groups bound q : ℕ) (events : List RowEvent) : Type 0 where
  pub since : List RowEvent
  pub seen : List RowEvent
  pub split : events ≡ since ++ seen
  pub last : last_of seen ≡ q
  pub alone : NoSenderCalls r q seen
  pub none : NoneBegins r q since
  pub room : (g : ℕ) → g < groups → FindsRoom r bound q g since seen

-- A send begins where all groups have come, or after a look that found room; a close where all groups have come, or while nobody sends.
abbrev pub BeginsLetIn : (r : RowSetting) (groups bound q : ℕ) → Move → List RowEvent → Type 0
BeginsLetIn r groups bound q (Move.Begin p (Call.Send body) known) earlier = HaveCome groups q earlier ⊎ HasLooked r groups bound q earlier
BeginsLetIn r groups bound q (Move.Begin p Call.Close known) earlier = HaveCome groups q earlier ⊎ NoSenderCalls r q earlier
BeginsLetIn r groups bound q _ earlier = Unit {0}

abbrev pub KeepBound : (r : RowSetting) (groups bound : ℕ) → List RowEvent → Type 0
KeepBound r groups bound [] = Unit {0}
KeepBound r groups bound (RowEvent.Moves m ∷ earlier) = KeepBound r groups bound earlier × BeginsLetIn r groups bound m.at m.move earlier
KeepBound r groups bound (_ ∷ earlier) = KeepBound r groups bound earlier

-- At each moment no more items are in the row than the bound, for each group, by the takes that are counted.
abbrev pub ThreadsKeepBounds : Type 0
ThreadsKeepBounds = (r : RowSetting) (groups bound : ℕ) (events : List RowEvent) → HasBound r groups bound → IsKept r events → KeepBound r groups bound events
    → (g : ℕ) → g < groups → accepted_below r (suc (last_of events)) events ≤ counted_below r (suc (last_of events)) g events + bound
