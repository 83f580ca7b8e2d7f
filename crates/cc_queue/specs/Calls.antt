-- The results of the begin of a call and of each of its turns.
use Rattle.std.specs.Prelude.{◌≡◌, ℕ, ◌+◌, ◌*◌, ◌≤◌, ◌==◌, if◌then◌else◌, List, [], ◌∷◌, ◌++◌}
use Rattle.cc_queue.specs.Names.{Body, Call, Entry, SendAnswer, TakeAnswer, Answer, Kind, Phase, Turn}
use Rattle.cc_runs.specs.ChainLaws.{IsLastAnswer}
use Rattle.cc_runs.specs.ChainLaws.{IsLastPending}
use Rattle.cc_runs.specs.Run.{begun_after}
use Rattle.cc_steps.specs.Walk.{Walk}
use Rattle.cc_queue.specs.Work.{tally, reads, marks, hands, scans}
use Rattle.cc_queue.specs.Soon.{WaitsBriefly}
use Rattle.cc_queue.specs.Headline.{StandsInOne, entry_of, name, history}

-- A begun call is in one history as its pass's last call, and is pending there. It is linked into its chain, so that the
-- combiner can come to it: the next step of its pass reads the state of its node. No state was read and nobody served.
pub record Begun (v : Walk) (call : Call) (w : Walk) : Type 0 where
  pub stands : StandsInOne v (entry_of v call ∷ []) w
  pub pending : IsLastPending (name w) (history w)
  pub linked : w.stand.phase ≡ Phase.ReadState
  pub begun : w.stand.begun ≡ begun_after call v.stand.begun
  pub reads : tally reads w.did ≡ tally reads v.did
  pub marks : tally marks w.did ≡ tally marks v.did

-- A turn that waits did one step, a read of the state which gave 1: the call is in its phase. It hasn't waited long.
pub record Waited (v w : Walk) : Type 0 where
  pub stands : StandsInOne v [] w
  pub still : w.stand ≡ v.stand
  pub did : w.did ≡ Kind.ReadState ∷ v.did
  pub briefly : WaitsBriefly w

-- A turn that is done read the state once. The answer is that of its pass's last call in one history. If the state was
-- 2 it served nobody; if it was 0 it served at least its own call and at most `bound` calls, reading at most
-- `capacity + 1` list nodes for each, and handed over once.
pub record Answered (v : Walk) (told : Answer) (served : ℕ) (w : Walk) : Type 0 where
  pub stands : StandsInOne v [] w
  pub last : IsLastAnswer (name w) (history w) told
  pub begun : w.stand.begun ≡ v.stand.begun
  pub reads : tally reads w.did ≡ 1 + tally reads v.did
  pub marks : tally marks w.did ≡ served + tally marks v.did
  pub hands : tally hands w.did ≡ (if served == 0 then 0 else 1) + tally hands v.did
  pub few : served ≤ v.setting.config.bound
  pub scans : tally scans w.did ≤ served * (v.setting.config.capacity + 1) + tally scans v.did

-- A turn waits, or is done with an answer. The views of the call, of its pass and of its answer come first.
abbrev pub Turned : {C P A : Type 0} → (C → Walk) → (P → Walk) → (A → Answer) → Walk → Turn C P A → Type 0
Turned call pass told v (Turn.Waiting same) = Waited v (call same)
Turned call pass told v (Turn.Done back answer served) = Answered v (told answer) served (pass back)

-- A call that was begun, and then turned once. The views come first, as at a turn.
abbrev pub BegunAndTurned : {C P A : Type 0} → (C → Walk) → (P → Walk) → (A → Answer) → Walk → Call → Turn C P A → Type 0
BegunAndTurned pending pass told v call turn = (w : Walk) × Begun v call w × Turned pending pass told w turn

-- A call that was waited for: the pass made it, and its answer is that of its pass's last call in one history.
pub record Completed (v : Walk) (call : Call) (told : Answer) (w : Walk) : Type 0 where
  pub stands : StandsInOne v (entry_of v call ∷ []) w
  pub last : IsLastAnswer (name w) (history w) told

-- a call that was pending already
pub record Ended (v : Walk) (told : Answer) (w : Walk) : Type 0 where
  pub stands : StandsInOne v [] w
  pub last : IsLastAnswer (name w) (history w) told

-- a take gave an item, or the end
abbrev pub IsSettled : TakeAnswer → Type 0
IsSettled TakeAnswer.Empty = ⊥
IsSettled _ = Unit {0}

-- a send was accepted, or never will be: the queue is closed, or has had all its items
abbrev pub IsFinal : SendAnswer → Type 0
IsFinal SendAnswer.Full = ⊥
IsFinal _ = Unit {0}

-- The same call, made again and again: the pass after each of them. Each was completed with this answer.
abbrev pub Repeated : Call → Answer → Walk → List Walk → Type 0
Repeated call told v [] = Unit {0}
Repeated call told v (w ∷ ws) = Completed v call told w × Repeated call told w ws

-- the pass after the last of them
abbrev pub last_of : Walk → List Walk → Walk
last_of v [] = v
last_of v (w ∷ ws) = last_of w ws

-- the calls as they were made, each of which knew what the pass had seen by then
abbrev pub entries_of : Call → Walk → List Walk → List Entry
entries_of call v [] = []
entries_of call v (w ∷ ws) = entry_of v call ∷ entries_of call w ws

-- The same call was made again and again, and each time completed with this answer, until the pass came here. All of them
-- are in one history.
pub record Tried (call : Call) (told : Answer) (v w : Walk) : Type 0 where
  pub tried : List Walk
  pub each : Repeated call told v tried
  pub here : last_of v tried ≡ w
  pub stands : StandsInOne v (entries_of call v tried) w

-- Takes that were made until one of them gave an item or the end: each of the earlier ones was completed as a take that
-- found nothing, and then the last one was completed in this way. All of them are in one history.
pub record TakenUntil (v : Walk) (told : TakeAnswer) (w : Walk) : Type 0 where
  pub tried : List Walk
  pub none : Repeated Call.Take (Answer.Take TakeAnswer.Empty) v tried
  pub taken : Completed (last_of v tried) Call.Take (Answer.Take told) w
  pub stands : StandsInOne v (entries_of Call.Take v tried ++ entry_of (last_of v tried) Call.Take ∷ []) w
  pub settled : IsSettled told

-- Sends of this body that were made until one of them was accepted, or none will be: each of the earlier ones was completed
-- as a send that found the queue full, and then the last one was completed in this way. All of them are in one history.
pub record SentUntil (v : Walk) (body : Body) (told : SendAnswer) (w : Walk) : Type 0 where
  pub tried : List Walk
  pub full : Repeated (Call.Send body) (Answer.Send SendAnswer.Full) v tried
  pub sent : Completed (last_of v tried) (Call.Send body) (Answer.Send told) w
  pub stands : StandsInOne v (entries_of (Call.Send body) v tried ++ entry_of (last_of v tried) (Call.Send body) ∷ []) w
  pub final : IsFinal told
