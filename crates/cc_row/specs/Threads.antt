-- The rules by which threads use a row. A thread takes a seat, looks which queue is the last one, or which queue its group is at, and makes
-- calls there by the passes of the seat. Meanwhile others may go on. A thread that has closed the last queue appends a further one. A
-- thread whose take returned Ended lets its group go on to the next queue.
use Rattle.std.specs.Prelude.{◌≡◌, ◌≢◌, ℕ, suc, ◌<◌, ◌==◌, Bool, true, false, List, [], ◌∷◌, ◌++◌, Option, Some, None, if◌then◌else◌, Ok}
use Rattle.std.specs.List.{list_any}
use Rattle.cc_model.specs.Config.{config_fault}
use Rattle.cc_model.specs.Items.{is_shut}
use Rattle.cc_runs.specs.State.{chain_of}
use Rattle.cc_runs.specs.Run.{IsRun, IsIdle, history_of, reached}
use Rattle.cc_row.specs.Names.{Call, Chain, Setting, Served, Move}
use Rattle.cc_row.specs.Queues.{AtQueue, AreApart}
use Rattle.cc_row.specs.Runs.{RowMove, FoundEnded, IsRowLinearization, moves_at}

-- a thread looks for a queue to send to or to close, or for a queue to take from for the group with this number
pub data Role : Type 0 where
  Sends : Role
  Takes : ℕ → Role

-- The events of a row: a queue makes a move; a thread looks, in a seat; a thread leaves its seat; a further queue is appended; the group
-- with this number goes on to the next queue; the row is closed for its callers
pub data RowEvent : Type 0 where
  Moves : RowMove → RowEvent
  Looks : ℕ → Role → RowEvent
  Leaves : ℕ → RowEvent
  Appends : RowEvent
  GoesOn : ℕ → RowEvent
  Closes : RowEvent

-- ---- the row after some events, of which the newest comes first

-- the moves of all queues
abbrev pub moves_of : List RowEvent → List RowMove
moves_of [] = []
moves_of (RowEvent.Moves m ∷ earlier) = m ∷ moves_of earlier
moves_of (RowEvent.Looks seat role ∷ earlier) = moves_of earlier
moves_of (RowEvent.Leaves seat ∷ earlier) = moves_of earlier
moves_of (RowEvent.Appends ∷ earlier) = moves_of earlier
moves_of (RowEvent.GoesOn name ∷ earlier) = moves_of earlier
moves_of (RowEvent.Closes ∷ earlier) = moves_of earlier

-- those of one queue
abbrev pub moves_there : ℕ → List RowEvent → List Move
moves_there q events = moves_at q (moves_of events)

-- the number of the last queue
abbrev pub last_of : List RowEvent → ℕ
last_of [] = 0
last_of (RowEvent.Moves m ∷ earlier) = last_of earlier
last_of (RowEvent.Looks seat role ∷ earlier) = last_of earlier
last_of (RowEvent.Leaves seat ∷ earlier) = last_of earlier
last_of (RowEvent.Appends ∷ earlier) = suc (last_of earlier)
last_of (RowEvent.GoesOn name ∷ earlier) = last_of earlier
last_of (RowEvent.Closes ∷ earlier) = last_of earlier

-- the number of the queue that the group is at
abbrev pub queue_of : (name : ℕ) → List RowEvent → ℕ
queue_of name [] = 0
queue_of name (RowEvent.Moves m ∷ earlier) = queue_of name earlier
queue_of name (RowEvent.Looks seat role ∷ earlier) = queue_of name earlier
queue_of name (RowEvent.Leaves seat ∷ earlier) = queue_of name earlier
queue_of name (RowEvent.Appends ∷ earlier) = queue_of name earlier
queue_of name (RowEvent.GoesOn other ∷ earlier) = if other == name then suc (queue_of name earlier) else queue_of name earlier
queue_of name (RowEvent.Closes ∷ earlier) = queue_of name earlier

-- the queue that a thread finds
abbrev pub found_by : Role → List RowEvent → ℕ
found_by Role.Sends events = last_of events
found_by (Role.Takes name) events = queue_of name events

-- a thread's look, and the queue that it found
pub record Look : Type 0 where
  pub role : Role
  pub queue : ℕ

-- the look of the thread in a seat, if there is one
abbrev pub look_of : (seat : ℕ) → List RowEvent → Option Look
look_of seat [] = None
look_of seat (RowEvent.Moves m ∷ earlier) = look_of seat earlier
look_of seat (RowEvent.Looks other role ∷ earlier) = if other == seat then Some (record { role = role; queue = found_by role earlier }) else look_of seat earlier
look_of seat (RowEvent.Leaves other ∷ earlier) = if other == seat then None else look_of seat earlier
look_of seat (RowEvent.Appends ∷ earlier) = look_of seat earlier
look_of seat (RowEvent.GoesOn name ∷ earlier) = look_of seat earlier
look_of seat (RowEvent.Closes ∷ earlier) = look_of seat earlier

-- whether the row is closed for its callers
abbrev pub is_closed : List RowEvent → Bool
is_closed [] = false
is_closed (RowEvent.Moves m ∷ earlier) = is_closed earlier
is_closed (RowEvent.Looks seat role ∷ earlier) = is_closed earlier
is_closed (RowEvent.Leaves seat ∷ earlier) = is_closed earlier
is_closed (RowEvent.Appends ∷ earlier) = is_closed earlier
is_closed (RowEvent.GoesOn name ∷ earlier) = is_closed earlier
is_closed (RowEvent.Closes ∷ earlier) = true

-- ---- a row

-- the setting of each queue; by a queue and the number of a group there, the row's number of that group; and by a queue and a pass, the seat
-- that has the pass
pub record RowSetting : Type 0 where
  pub of : ℕ → Setting
  pub names : ℕ → ℕ → ℕ
  pub seats : ℕ → ℕ → ℕ

-- a pass of this chain of a queue serves this role
abbrev pub Serves : (names : ℕ → ℕ) → Chain → Role → Type 0
Serves names Chain.Send Role.Sends = Unit {0}
Serves names (Chain.Take g) (Role.Takes name) = names g ≡ name
Serves names _ _ = ⊥

-- the thread in the seat of a pass has found the queue of the pass, for the role of the pass
pub record HasFound (r : RowSetting) (q pass : ℕ) (events : List RowEvent) : Type 0 where
  pub role : Role
  pub serves : Serves (r.names q) (chain_of (r.of q).config pass) role
  pub looks : look_of (r.seats q pass) events ≡ Some (record { role = role; queue = q })

-- no pass of the seat has a call
abbrev pub IsAtRest : RowSetting → (seat : ℕ) → List RowEvent → Type 0
IsAtRest r seat events = (q p : ℕ) → r.seats q p ≡ seat → IsIdle ((reached (r.of q) (moves_there q events)).stand p).phase

-- ---- the rules

-- A pass begins a call at its queue only if the thread in its seat has found that queue. The steps of the call are the machine's.
abbrev pub BeginsWhereFound : RowSetting → (q : ℕ) → Move → List RowEvent → Type 0
BeginsWhereFound r q (Move.Begin p call known) earlier = HasFound r q p earlier
BeginsWhereFound r q (Move.Step p) earlier = Unit {0}
BeginsWhereFound r q (Move.Take p) earlier = Unit {0}

abbrev pub begins_close : Move → Bool
begins_close (Move.Begin p Call.Close known) = true
begins_close _ = false

-- A thread looks, and leaves its seat, while no pass of the seat has a call. A further queue is appended once a close of the last one was answered,
-- and while the row is open for its callers. A group goes on once a take of it returned Ended, if there is a further queue. The row is closed
-- for its callers while nobody is about to append: no close of the last queue was begun before.
abbrev pub KeepsRule : RowSetting → RowEvent → List RowEvent → Type 0
KeepsRule r (RowEvent.Moves m) earlier = BeginsWhereFound r m.at m.move earlier
KeepsRule r (RowEvent.Looks seat role) earlier = IsAtRest r seat earlier
KeepsRule r (RowEvent.Leaves seat) earlier = IsAtRest r seat earlier
KeepsRule r RowEvent.Appends earlier = (is_closed earlier ≡ false) × (is_shut (history_of (r.of (last_of earlier)) (moves_there (last_of earlier) earlier)) ≡ true)
KeepsRule r (RowEvent.GoesOn name) earlier =
    (queue_of name earlier < last_of earlier) × FoundEnded (r.of (queue_of name earlier)) (r.names (queue_of name earlier)) (moves_there (queue_of name earlier) earlier) name
KeepsRule r RowEvent.Closes earlier = list_any begins_close (moves_there (last_of earlier) earlier) ≡ false

abbrev pub KeepRules : RowSetting → List RowEvent → Type 0
KeepRules r [] = Unit {0}
KeepRules r (e ∷ earlier) = KeepRules r earlier × KeepsRule r e earlier

-- each queue runs as the machine does, and the threads keep the rules
pub record IsKept (r : RowSetting) (events : List RowEvent) : Type 0 where
  pub serves : (q : ℕ) → (r.of q).served ≡ Served.List
  pub checked : (q : ℕ) → config_fault (r.of q).config ≡ Ok tt
  pub apart : AreApart (λ q. (r.of q).config) r.names
  pub runs : (q : ℕ) → IsRun (r.of q) (moves_there q events)
  pub rules : KeepRules r events

-- ---- the laws

-- The queue whose close is the row's: the last one, if the row is closed for its callers. Else it is a queue that isn't there yet, so no
-- answer says that the row is closed, or has ended.
abbrev pub final_of : List RowEvent → ℕ
final_of events = if is_closed events then last_of events else suc (last_of events)

-- In every interleaving of such threads the row is one queue, whose order keeps real time.
abbrev pub ThreadsMakeRows : Type 0
ThreadsMakeRows = (r : RowSetting) (events : List RowEvent) → IsKept r events → (effects : List (List AtQueue)) × IsRowLinearization r.of r.names (final_of events) (moves_of events) effects

-- the senders and all groups have gone on from the queue
pub record IsLeft (r : RowSetting) (q : ℕ) (events : List RowEvent) : Type 0 where
  pub senders : q < last_of events
  pub groups : (g : ℕ) → g < (r.of q).config.groups → q < queue_of (r.names q g) events

-- there is no thread in the seat that has found this queue
abbrev pub IsAway : (seat q : ℕ) → List RowEvent → Type 0
IsAway seat q events = (look : Look) → look_of seat events ≡ Some look → look.queue ≢ q

-- since these events there was such a moment
pub record WasAway (seat q : ℕ) (later since : List RowEvent) : Type 0 where
  pub after : List RowEvent
  pub before : List RowEvent
  pub split : later ≡ after ++ before
  pub away : IsAway seat q (before ++ since)

-- Once all have left a queue, and each seat was seen away from it since, no thread makes a move there: so the memory of the queue may be
-- freed.
abbrev pub LeftQueuesRest : Type 0
LeftQueuesRest = (r : RowSetting) (q : ℕ) (m : RowMove) (later since : List RowEvent) → IsKept r (RowEvent.Moves m ∷ (later ++ since)) → IsLeft r q since
    → ((seat : ℕ) → WasAway seat q later since) → m.at ≢ q
