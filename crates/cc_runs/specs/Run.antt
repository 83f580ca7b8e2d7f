-- A run: begins, steps and answers taken, the newest first; its state, and its history.
use Rattle.std.specs.Prelude.{◌≢◌, ℕ, ◌+◌, ◌*◌, ◌<◌, ◌≤◌, ◌==◌, nat_lt, if◌then◌else◌, List, [], ◌∷◌}
use Rattle.cc_runs.specs.Names.{Config, Setting, Served, Call, Word, Object, ItemField, Chain, Event, Stand, Phase, Move}
use Rattle.cc_model.specs.Body.{IsBody}
use Rattle.cc_model.specs.Record.{Record, empty}
use Rattle.cc_model.specs.Items.{known_at}
use Rattle.cc_runs.specs.Words.{groups}
use Rattle.cc_runs.specs.State.{State, chain_of, pass_at, first_node, hold}
use Rattle.cc_runs.specs.Lines.{event_at}
use Rattle.cc_runs.specs.Step.{stepped}

-- how many passes there are: the counter has senders alone
abbrev pub passes_of : Served → Config → ℕ
passes_of Served.Counter c = c.senders
passes_of Served.List c = c.senders + groups c * c.receivers

-- how many passes a machine has
abbrev pub passes : Setting → ℕ
passes c = passes_of c.served c.config

-- The words at the opening. Each tail names node 0 of its chain, with state 0 and next null. The list is its dummy, node
-- 0; nodes 1 to capacity are free.
abbrev pub first_word : Config → Word → ℕ
first_word c (Word.Tail (Chain.Take g)) = if nat_lt g (groups c) then 1 else 0
first_word c (Word.Tail Chain.Send) = 1
first_word c (Word.Object Object.Last) = 1
first_word c (Word.Object Object.Cursor) = 1
first_word c (Word.Object (Object.Head g)) = if nat_lt g (groups c) then 1 else 0
first_word c (Word.Item i ItemField.Passed) = if i == 0 then 0 else if nat_lt i (c.capacity + 1) then groups c else 0
first_word c _ = 0

-- no pass is like this: what a list of passes shows past its end
abbrev pub nowhere : Stand
nowhere = record { begun = 0; node = 0; phase = Phase.Idle }

-- the state at the opening: every pass is idle
abbrev pub opening : Setting → State
opening c = record {
  mem = first_word c.config;
  stand = λ p. if nat_lt p (passes c) then record { begun = 0; node = first_node c.config p; phase = Phase.Idle } else nowhere;
  history = empty (groups c.config);
}

-- a send has the next number of its sender, a close and a take have none
abbrev pub begun_after : Call → ℕ → ℕ
begun_after (Call.Send body) begun = begun + 1
begun_after _ begun = begun

-- the number of a call
abbrev pub number_of : Call → ℕ → ℕ
number_of (Call.Send body) begun = begun + 1
number_of _ begun = 0

-- a pass that begins a call
abbrev pub begins : Config → ℕ → Call → ℕ → Stand → Stand
begins c p call known at = record {
  begun = begun_after call at.begun;
  node = at.node;
  phase = Phase.ResetNext record { pass = pass_at c p; call = call; number = number_of call at.begun; known = known };
}

-- a pass whose answer was taken
abbrev pub rests : Stand → Stand
rests at = record { begun = at.begun; node = at.node; phase = Phase.Idle }

-- the state after a move
abbrev pub moved : Setting → State → Move → State
moved c s (Move.Begin p call known) = record { mem = s.mem; stand = hold s.stand p (begins c.config p call known (s.stand p)); history = s.history }
moved c s (Move.Step p) = stepped c s p
moved c s (Move.Take p) = record { mem = s.mem; stand = hold s.stand p (rests (s.stand p)); history = s.history }

-- the state to which a run leads
abbrev pub reached : Setting → List Move → State
reached c [] = opening c
reached c (m ∷ earlier) = moved c (reached c earlier) m

-- a call that can be made on this chain, of a body of one to four words: the counter has no close
abbrev pub IsOn : Served → Chain → Call → Type 0
IsOn _ Chain.Send (Call.Send body) = IsBody body
IsOn Served.List Chain.Send Call.Close = Unit {0}
IsOn Served.List (Chain.Take g) Call.Take = Unit {0}
IsOn _ _ _ = ⊥

-- the pass has no call
abbrev pub IsIdle : Phase → Type 0
IsIdle Phase.Idle = Unit {0}
IsIdle _ = ⊥

-- its call has read its answer
abbrev pub IsFinished : Phase → Type 0
IsFinished (Phase.Finished answer) = Unit {0}
IsFinished _ = ⊥

-- A move that can be made. A pass begins no call while it has one, at most per_sender sends in all, and knows at most
-- what there is to know; it steps if it has a step.
abbrev pub May : Setting → State → Move → Type 0
May c s (Move.Begin p call known) =
    (p < passes c) × IsOn c.served (chain_of c.config p) call × IsIdle (s.stand p).phase × (begun_after call (s.stand p).begun ≤ c.config.per_sender) × (known ≤ known_at (pass_at c.config p) s.history)
May c s (Move.Step p) = (p < passes c) × (event_at (s.stand p).phase ≢ Event.Idle)
May c s (Move.Take p) = (p < passes c) × IsFinished (s.stand p).phase

-- each move could be made in the state to which the earlier ones led
abbrev pub IsRun : Setting → List Move → Type 0
IsRun c [] = Unit {0}
IsRun c (m ∷ earlier) = IsRun c earlier × May c (reached c earlier) m

-- the history of a run
abbrev pub history_of : Setting → List Move → Record
history_of c moves = (reached c moves).history
