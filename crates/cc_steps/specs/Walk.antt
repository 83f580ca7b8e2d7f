-- A contract sees of a seat its pass, the run that it has seen, and the phase of its pass.
use Rattle.std.specs.Prelude.{◌≡◌, ◌≢◌, ℕ, ◌+◌, ◌<◌, List, [], ◌∷◌, ◌++◌, true, IsTrue, Option, Some, Ok}
use Rattle.atomic_table.specs.Seated.{TableId}
use Rattle.atomic_table.specs.declared.shared.Seat.{Seat}
use Rattle.cc_model.specs.Config.{config_fault}
use Rattle.cc_steps.specs.Names.{Call, Entry, Setting, Stand, Phase, Kind, Event, Move, View, Role}
use Rattle.cc_runs.specs.Words.{layout_of, exists}
use Rattle.cc_runs.specs.State.{Operation, chain_of, pass_at, first_node, word_of}
use Rattle.cc_runs.specs.Lines.{event_at, goes}
use Rattle.cc_runs.specs.Early.{may_be_early, is_fresh}
use Rattle.cc_runs.specs.ChainLaws.{IsLastAnswer}
use Rattle.cc_runs.specs.ChainLaws.{IsLastPending}
use Rattle.cc_runs.specs.Ready.{IsPhaseSafe}
use Rattle.cc_runs.specs.Passes.{by, then_did}
use Rattle.cc_runs.specs.Run.{IsRun, passes, history_of}
use Rattle.cc_steps.specs.Topic.{Topic}
use Rattle.cc_steps.specs.Seen.{Onward, Later, Covers, stand_in, word_in, entered, added, after_step, does_at, made_in, did_in, with_begun}
use Rattle.cc_steps.specs.Shown.{CanStart, stand_of, longer}

-- A pass as plain data: its table and setting, its number in the row of all passes (senders first, from 0), the run that it
-- has seen, its phase with its registers, the calls that it began, and the kinds of its steps, the newest first.
pub record Walk : Type 0 where
  pub table_id : TableId
  pub setting : Setting
  pub number : ℕ
  pub seen : List Move
  pub stand : Stand
  pub made : List Entry
  pub did : List Kind

-- the data of a view: phase, calls and kinds are those of the run that it has seen
abbrev pub walk_of : TableId → View → Walk
walk_of z v = record {
  table_id = z;
  setting = v.setting;
  number = v.number;
  seen = v.seen;
  stand = stand_of v;
  made = made_in v.setting v.seen v.number;
  did = did_in v.setting v.seen v.number;
}

-- the data of a seat
abbrev pub walk : Seat (Unit {0}) View → Walk
walk s = walk_of s.table_id s.me.0

-- what holds of the view of each seat of a pass
pub record Sound (v : View) : Type 0 where
  pub pass : v.role ≡ Role.Pass
  pub alone : v.other ≡ []
  pub below : v.number < passes v.setting
  pub checked : config_fault v.setting.config ≡ Ok tt
  pub run : IsRun v.setting v.seen

-- the seat is of this topic
abbrev pub IsOf : Topic → Walk → Type 0
IsOf z w = (w.table_id ≡ z.table_id) × (w.setting ≡ z.setting)

-- both are of one pass of one table
abbrev pub IsSameSeat : Walk → Walk → Type 0
IsSameSeat v w = (w.table_id ≡ v.table_id) × (w.setting ≡ v.setting) × (w.number ≡ v.number)

-- the seat of pass p, which has seen nothing
abbrev pub fresh : Topic → ℕ → Walk
fresh z p = record {
  table_id = z.table_id;
  setting = z.setting;
  number = p;
  seen = [];
  stand = record { begun = 0; node = first_node z.setting.config p; phase = Phase.Idle };
  made = [];
  did = [];
}

-- the seats of this number of passes, from p on
abbrev pub fresh_from : Topic → ℕ → List Walk → Type 0
fresh_from z p [] = Unit {0}
fresh_from z p (w ∷ ws) = (w ≡ fresh z p) × fresh_from z (p + 1) ws

-- the next step of the pass does this
abbrev pub CanDo : Walk → Operation → Type 0
CanDo v op = (event_at v.stand.phase ≢ Event.Idle) × (does_at v.setting v.number v.stand ≡ op)

-- the next step of the pass is of this kind, and does this
abbrev pub Steps : Walk → Kind → Operation → Type 0
Steps v kind op = (event_at v.stand.phase ≡ Event.Did kind) × (does_at v.setting v.number v.stand ≡ op)

-- the phase of the pass in its step
abbrev pub stepping : Walk → Option Call → Stand
stepping v call = entered v.setting v.number v.seen call v.stand

-- it can begin this call, whose first step does this
abbrev pub CanBegin : Walk → Call → Operation → Type 0
CanBegin v call op = CanStart v.setting v.number (Some call) v.stand × (does_at v.setting v.number (stepping v (Some call)) ≡ op)

-- it loads nothing before its next exchange
abbrev pub IsFresh : Walk → Type 0
IsFresh v = is_fresh v.stand.phase ≡ true

-- the store of its next step may be early
abbrev pub IsEarly : Walk → Option Call → Type 0
IsEarly v call = may_be_early (chain_of v.setting.config v.number) (stepping v call).phase ≡ true

-- the phase of the pass after its step, of what that found
abbrev pub next_stand : Walk → Option Call → ℕ → Stand
next_stand v call found = after_step v.setting v.number (stepping v call) found

-- the pass after its step, of what that found, with what it has seen then
abbrev pub walked_to : Walk → Option Call → ℕ → List Move → Walk
walked_to v call found seen = record {
  table_id = v.table_id;
  setting = v.setting;
  number = v.number;
  seen = seen;
  stand = next_stand v call found;
  made = with_begun v.setting v.number v.seen call v.stand v.made;
  did = then_did (event_at (stepping v call).phase) v.did;
}

-- as far as the pass has seen, the word of its next step is there, and no number of it leaves its range
abbrev pub IsReadyToStep : Walk → Type 0
IsReadyToStep w = IsTrue (exists (layout_of w.setting.config) (word_of (does_at w.setting w.number w.stand))) × IsPhaseSafe w.setting w.stand.node (word_in w.setting w.seen (word_of (does_at w.setting w.number w.stand))) w.stand.phase

-- the data of the pass are those in the run that it has seen
abbrev pub IsTrueTo : Walk → Type 0
IsTrueTo w = (w.stand ≡ stand_in w.setting w.seen w.number) × (w.made ≡ made_in w.setting w.seen w.number) × (w.did ≡ did_in w.setting w.seen w.number)

-- One step of the machine: others' moves came in between, and then the pass did this one. It has seen that run.
pub record Walked (v : Walk) (call : Option Call) (w : Walk) : Type 0 where
  pub between : List Move
  pub others : by v.number between ≡ []
  pub seen : w.seen ≡ added v.setting v.number v.seen call (between ++ v.seen)
  pub later : Onward v.seen w.seen
  pub run : IsRun w.setting w.seen
  pub ready : IsReadyToStep w
  pub below : w.number < passes w.setting
  pub checked : config_fault w.setting.config ≡ Ok tt
  pub was : IsTrueTo v
  pub shows : IsTrueTo w

-- and this is what it found: what the word held in the run with those moves
pub record Found (v : Walk) (call : Option Call) (found : ℕ) (w : Walk) : Type 0 where
  pub walked : Walked v call w
  pub found_is : found ≡ word_in v.setting (walked.between ++ v.seen) (word_of (does_at v.setting v.number (stepping v call)))
  pub safe : IsPhaseSafe v.setting (stepping v call).node found (stepping v call).phase

-- It has seen the longer of its own run and another, and that goes on from both. It did nothing.
pub record HasLooked (v : Walk) (other : List Move) (w : Walk) : Type 0 where
  pub same : w ≡ record v { seen = longer v.seen other }
  pub later : Onward v.seen w.seen
  pub mine : Covers v.number v.seen w.seen
  pub theirs : Later other w.seen
  pub run : IsRun w.setting w.seen
  pub ready : IsReadyToStep w

-- in the history of what the pass has seen, its last call has no answer
abbrev pub IsPendingIn : Walk → Type 0
IsPendingIn w = IsLastPending (pass_at w.setting.config w.number) (history_of w.setting w.seen)

-- an answer that was read and taken is the answer of the pass's last call, in the history of what it has seen
abbrev pub IsToldAt : Walk → Phase → Type 0
IsToldAt w (Phase.Finished told) = IsLastAnswer (pass_at w.setting.config w.number) (history_of w.setting w.seen) told
IsToldAt w _ = Unit {0}

-- the next phase of the step, before an answer is taken
abbrev pub leads_to : Walk → ℕ → Phase
leads_to v found = goes v.setting (chain_of v.setting.config v.number) v.stand.node v.stand.phase found

-- a combiner that has served nobody yet finds its own node linked
abbrev pub LinksOwn : Phase → ℕ → Type 0
LinksOwn (Phase.ReadNext round) found = round.served ≡ 0 → 0 < found
LinksOwn _ found = Unit {0}

-- Of every seat of a pass holds: its topic's configuration was checked, it is one of the topic's passes, it has seen a run,
-- and its data are those in that run.
pub record IsSound (w : Walk) : Type 0 where
  pub checked : config_fault w.setting.config ≡ Ok tt
  pub below : w.number < passes w.setting
  pub run : IsRun w.setting w.seen
  pub shows : IsTrueTo w
