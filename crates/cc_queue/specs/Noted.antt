-- Passes that heed notes, and what their calls are answered then.
use Rattle.std.specs.Prelude.{◌≡◌, ℕ, List, [], Ok}
use Rattle.cc_model.specs.Record.{Record}
use Rattle.cc_model.specs.Config.{config_fault}
use Rattle.cc_model.specs.Items.{Begins}
use Rattle.cc_model.specs.After.{ComesAfter, Tells}
use Rattle.cc_queue.specs.Names.{Body, Call, Entry, SendAnswer, TakeAnswer, Answer, Setting, Served}
use Rattle.cc_runs.specs.Run.{history_of}
use Rattle.cc_steps.specs.Seen.{Onward}
use Rattle.cc_steps.specs.Noted.{Noted}
use Rattle.cc_steps.specs.Walk.{Walk}
use Rattle.cc_queue.specs.Headline.{StandsInOne, entry_of, history}
use Rattle.cc_queue.specs.Met.{HasMet}
use Rattle.cc_queue.specs.Calls.{Begun, Answered, Completed, last_of, TakenUntil, SentUntil}

-- the note is of the queue of this pass
abbrev pub IsOfOneQueue : Walk → Noted → Type 0
IsOfOneQueue w n = (n.table_id ≡ w.table_id) × (n.setting ≡ w.setting)

-- the history that was noted
abbrev pub noted_history : Noted → Record
noted_history n = history_of n.setting n.seen

-- the chains serve a list whose configuration was checked
pub record IsListChecked (s : Setting) : Type 0 where
  pub list : s.served ≡ Served.List
  pub checked : config_fault s.config ≡ Ok tt

-- The pass has seen what was noted: the history that it has seen begins with the noted one.
pub record HasHeeded (n : Noted) (w : Walk) : Type 0 where
  pub here : IsOfOneQueue w n
  pub onward : Onward n.seen w.seen
  pub begins : Begins (noted_history n) (history w)
  pub stands : StandsInOne w [] w
  pub queue : IsListChecked w.setting

-- This call is in the history that the pass has seen, and has this answer. It comes after all of the noted history, of which
-- its answer says this.
pub record IsFreshAfter (n : Noted) (call : Entry) (told : Answer) (w : Walk) : Type 0 where
  pub before : List Answer
  pub after : ComesAfter w.setting.config (noted_history n) (history w) before call told
  pub tells : Tells w.setting.config (noted_history n) (history w) call.pass before told

-- The pass heeded the note, then it made the call, which was completed.
pub record CompletedAfter (n : Noted) (u : Walk) (call : Call) (told : Answer) (w : Walk) : Type 0 where
  pub heeding : Walk
  pub met : HasMet u heeding
  pub heeded : HasHeeded n heeding
  pub completed : Completed heeding call told w
  pub fresh : IsFreshAfter n (entry_of heeding call) told w

-- the pass heeded the note, and made no call
pub record JustHeeded (n : Noted) (u w : Walk) : Type 0 where
  pub met : HasMet u w
  pub heeded : HasHeeded n w

-- ---- laws: what follows once a note was heeded, whatever the pass did since

-- it has seen still what was noted
abbrev pub HeededStays : Type 0
HeededStays = (n : Noted) (v w : Walk) (calls : List Entry) → HasHeeded n v → StandsInOne v calls w → HasHeeded n w

-- each call that it made since comes after all that was noted
abbrev pub HeededIsFresh : Type 0
HeededIsFresh = (n : Noted) (v w : Walk) (call : Call) (told : Answer) → HasHeeded n v → Completed v call told w → IsFreshAfter n (entry_of v call) told w

-- so does the take that ended a row of takes, and the send that ended a row of sends
abbrev pub TakesAreFresh : Type 0
TakesAreFresh = (n : Noted) (v w : Walk) (told : TakeAnswer) → HasHeeded n v → (t : TakenUntil v told w) → IsFreshAfter n (entry_of (last_of v t.tried) Call.Take) (Answer.Take told) w

abbrev pub SendsAreFresh : Type 0
SendsAreFresh = (n : Noted) (v w : Walk) (body : Body) (told : SendAnswer) → HasHeeded n v → (s : SentUntil v body told w) → IsFreshAfter n (entry_of (last_of v s.tried) (Call.Send body)) (Answer.Send told) w

-- a call that was begun, waited in turns, and was answered in a turn is completed
abbrev pub TurnsComplete : Type 0
TurnsComplete = (v b c w : Walk) (call : Call) (told : Answer) (served : ℕ) → Begun v call b → StandsInOne b [] c → Answered c told served w → Completed v call told w
