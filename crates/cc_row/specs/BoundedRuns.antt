-- Runs of threads that keep the rules of a row and of its bound. From outside, each such run is one queue with this
-- capacity, also with the looks that return Full.
use Rattle.std.specs.Prelude.{◌≡◌, ℕ, ◌≤◌, Bool, true, false, List, [], ◌∷◌, ◌++◌, map, length, Option, Some}
use Rattle.std.specs.List.{AllByRecursion, list_any}
use Rattle.cc_model.specs.Items.{IsPrefix, calls_of}
use Rattle.cc_runs.specs.declared.phase.Phase.{Phase}
use Rattle.cc_runs.specs.OnChain.{calls_on}
use Rattle.cc_runs.specs.State.{pass_at}
use Rattle.cc_runs.specs.Linearizable.{IsExact, replay}
use Rattle.cc_row.specs.Names.{Config, Body, Call, Entry, Answer, Chain, Move}
use Rattle.cc_row.specs.Queues.{AtQueue, only}
use Rattle.cc_row.specs.Runs.{flat, IsRowTimely}
use Rattle.cc_row.specs.Threads.{RowEvent, RowSetting, IsKept, moves_of, final_of}
use Rattle.cc_row.specs.Bound.{at_queues, told, IsQueue, IsWithin}
use Rattle.cc_row.specs.BoundQueues.{RowEffect, effects_in, calls_in}
use Rattle.cc_row.specs.BoundThreads.{queue_at, HasBound, KeepBound, FindsFull}

-- ---- looks that return Full

-- a send by this sender, with this number
pub record Sent : Type 0 where
  pub sender : ℕ
  pub number : ℕ
  pub body : Body

abbrev pub is_close : Call → Bool
is_close Call.Close = true
is_close _ = false

-- When the events were `seen`, a send's look loaded how many items a queue had accepted; later it found that the row
-- was full. At the first moment no close of this queue had exchanged.
pub record GetsFull (r : RowSetting) (groups bound last : ℕ) (later seen : List RowEvent) : Type 0 where
  pub after : List RowEvent
  pub between : List RowEvent
  pub split : later ≡ after ++ between
  pub finds : FindsFull r groups bound between seen
  pub no_close : list_any (λ (e : Entry). is_close e.call) (queue_at r last seen).history.sends.calls ≡ false

-- Sends, by the moment of their look's first load: each gets Full. A close of the row is one of its last queue.
abbrev pub GetFull : (r : RowSetting) (groups bound : ℕ) (looks : List RowEvent → List Sent) → List RowEvent → Type 0
GetFull r groups bound looks events = (later seen : List RowEvent) → later ++ seen ≡ events
    → AllByRecursion (λ (s : Sent). GetsFull r groups bound (final_of events) later seen) (looks seen)

abbrev pub refused : List Sent → List RowEffect
refused [] = []
refused (s ∷ others) = RowEffect.Refused s.sender s.number s.body ∷ refused others

-- the order of a run, in which each of these sends takes effect at that moment
abbrev pub with_looks : (looks : List RowEvent → List Sent) → List RowEvent → List (List AtQueue) → List RowEffect
with_looks looks [] effects = refused (looks [])
with_looks looks (RowEvent.Moves m ∷ earlier) [] =
    refused (looks (RowEvent.Moves m ∷ earlier)) ++ with_looks looks earlier []
with_looks looks (RowEvent.Moves m ∷ earlier) (now ∷ before) =
    refused (looks (RowEvent.Moves m ∷ earlier)) ++ (map RowEffect.At now ++ with_looks looks earlier before)
with_looks looks (RowEvent.Looks seat role ∷ earlier) effects =
    refused (looks (RowEvent.Looks seat role ∷ earlier)) ++ with_looks looks earlier effects
with_looks looks (RowEvent.Leaves seat ∷ earlier) effects =
    refused (looks (RowEvent.Leaves seat ∷ earlier)) ++ with_looks looks earlier effects
with_looks looks (RowEvent.Appends ∷ earlier) effects =
    refused (looks (RowEvent.Appends ∷ earlier)) ++ with_looks looks earlier effects
with_looks looks (RowEvent.GoesOn name ∷ earlier) effects =
    refused (looks (RowEvent.GoesOn name ∷ earlier)) ++ with_looks looks earlier effects
with_looks looks (RowEvent.Closes ∷ earlier) effects =
    refused (looks (RowEvent.Closes ∷ earlier)) ++ with_looks looks earlier effects

-- ---- orders

-- what had taken effect before these last events
abbrev pub effects_before : (later : List RowEvent) → List (List AtQueue) → List (List AtQueue)
effects_before [] effects = effects
effects_before (RowEvent.Moves m ∷ later) [] = []
effects_before (RowEvent.Moves m ∷ later) (now ∷ before) = effects_before later before
effects_before (RowEvent.Looks seat role ∷ later) effects = effects_before later effects
effects_before (RowEvent.Leaves seat ∷ later) effects = effects_before later effects
effects_before (RowEvent.Appends ∷ later) effects = effects_before later effects
effects_before (RowEvent.GoesOn name ∷ later) effects = effects_before later effects
effects_before (RowEvent.Closes ∷ later) effects = effects_before later effects

-- from outside, an order of one queue of this capacity
abbrev pub IsOneQueue : (one : Config) (last : ℕ) → List RowEffect → Type 0
IsOneQueue one last order = length order ≤ one.life
    → IsQueue one one.groups (told last (calls_in order))
    × IsWithin one.groups one.capacity last (at_queues (calls_in order))

-- ---- its real time

-- a pass of a queue takes the answer of its call, after these events
pub record Taken : Type 0 where
  pub queue : ℕ
  pub pass : ℕ
  pub at : List RowEvent

-- it did so in this run, and this is the answer
pub record IsTaken (r : RowSetting) (events : List RowEvent) (t : Taken) (answer : Answer) : Type 0 where
  pub later : List RowEvent
  pub split : events ≡ later ++ RowEvent.Moves (record { at = t.queue; move = Move.Take t.pass }) ∷ t.at
  pub told : ((queue_at r t.queue t.at).stand t.pass).phase ≡ Phase.Finished answer

-- The call has taken effect with this answer. It is the pass's last call by then, and the earlier ones have, too.
pub record HasEffect (r : RowSetting) (t : Taken) (answer : Answer) (order : List RowEffect) : Type 0 where
  pub before : List (Entry × Option Answer)
  pub entry : Entry
  pub last : calls_of (pass_at (r.of t.queue).config t.pass) (queue_at r t.queue t.at).history
      ≡ before ++ (entry, Some answer) ∷ []
  pub there : IsPrefix (before ++ (entry, Some answer) ∷ []) (calls_of (pass_at (r.of t.queue).config t.pass)
      (replay (r.of t.queue).config.groups (only t.queue (effects_in order))))

-- At this moment of the run, each call of this order has exchanged, and all whose answers were taken are in it.
pub record IsInTime (r : RowSetting) (seen : List RowEvent) (order : List RowEffect) : Type 0 where
  pub exchanged : (q : ℕ) (x : Chain)
      → IsPrefix (calls_on x (replay (r.of q).config.groups (only q (effects_in order))))
      (calls_on x (queue_at r q seen).history)
  pub in_time : (t : Taken) (answer : Answer) → IsTaken r seen t answer → HasEffect r t answer order

-- a linearization of a run
pub record IsBoundedLinearization (r : RowSetting) (one : Config) (events : List RowEvent) (effects : List (List AtQueue)) : Type 0 where
  pub timely : IsRowTimely r.of (moves_of events) effects
  pub exact : (q : ℕ) → IsExact (r.of q).config (only q (flat effects))
  -- at each moment it has each call whose answer was taken
  pub in_time : (later seen : List RowEvent) → later ++ seen ≡ events
      → IsInTime r seen (map RowEffect.At (flat (effects_before later effects)))
  -- and from outside, with each Full of a queue, it is an order of one queue of this capacity
  pub is_one : IsOneQueue one (final_of events) (map RowEffect.At (flat effects))
  -- so it is with any looks that get Full
  pub has_looks : (looks : List RowEvent → List Sent) → GetFull r one.groups one.capacity looks events
      → IsOneQueue one (final_of events) (with_looks looks events effects)

-- each run of such threads has such an order
abbrev pub BoundedThreadsAreOne : Type 0
BoundedThreadsAreOne = (r : RowSetting) (one : Config) (events : List RowEvent) → HasBound r one.groups one.capacity → IsKept r events
    → KeepBound r one.groups one.capacity events → (effects : List (List AtQueue)) × IsBoundedLinearization r one events effects
