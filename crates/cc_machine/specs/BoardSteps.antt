-- The state that a board shows, and what its steps ask for and do.
use Rattle.std.specs.Prelude.{List, ◌≡◌, ◌≢◌, ℕ, ◌<◌, slice_index_or, length}
use Rattle.cc_model.specs.HistoryRoom.{SideRoom, HistoryRoom, room_of_group, lists}
use Rattle.cc_machine.specs.Names.{Setting, Chain, Kind, Event, Stand, Phase, Board, Stepper}
use Rattle.cc_runs.specs.Words.{IsSmall, layout_of, size, groups}
use Rattle.cc_runs.specs.State.{State, first_node, chain_of}
use Rattle.cc_runs.specs.Lines.{event_at}
use Rattle.cc_runs.specs.Ready.{IsSafe, WhileUndecided}
use Rattle.cc_runs.specs.Step.{stepped_from, stepped}
use Rattle.cc_runs.specs.Run.{passes, nowhere}
use Rattle.cc_machine.specs.View.{View, state_in}

-- the view of a board
abbrev pub view_of : Board → View
view_of b = record { setting = b.setting; words = b.words.items; stands = b.stands.items; history = lists b.history }

-- the state of a board
abbrev pub state_of : Board → State
state_of b = state_in (view_of b)

-- a board has all its words and passes
pub record IsLaid (b : Board) : Type 0 where
  pub small : IsSmall (layout_of b.setting.config)
  pub words : length b.words.items ≡ size (layout_of b.setting.config)
  pub stands : length b.stands.items ≡ passes b.setting
  pub groups : length b.history.takes ≡ groups b.setting.config

-- a chain's side, with its room
abbrev pub side_room : Chain → HistoryRoom → SideRoom
side_room Chain.Send h = h.sends
side_room (Chain.Take g) h = room_of_group h g

-- room for a further call of this chain
abbrev pub HasCallRoom : HistoryRoom → Chain → Type 0
HasCallRoom h x = length (side_room x h).lists.calls < (side_room x h).room

-- room for a further answer
abbrev pub HasAnswerRoom : HistoryRoom → Chain → Type 0
HasAnswerRoom h x = length (side_room x h).lists.answers < (side_room x h).room

-- room for what the step in this phase puts into the history
abbrev pub HasRoom : HistoryRoom → Chain → Phase → Type 0
HasRoom h x (Phase.Exchange call) = HasCallRoom h x
HasRoom h x at = WhileUndecided at (HasAnswerRoom h x)

-- a pass during its step, in this phase
abbrev pub stand_of : Stepper → Phase → Stand
stand_of who at = record { begun = who.begun; node = who.node; phase = at }

-- its phase before its step
abbrev pub phase_of : Board → Stepper → Phase
phase_of b who = ((state_of b).stand who.pass).phase

-- the step of this stepper, in this phase, can be done
pub record CanStep (b : Board) (who : Stepper) (at : Phase) : Type 0 where
  pub laid : IsLaid b
  pub pass : who.pass < passes b.setting
  pub safe : IsSafe b.setting (state_of b) who.chain who.node at
  pub room : HasRoom b.history who.chain at

-- what no step changes
pub record Keeps (old new : Board) : Type 0 where
  pub setting : new.setting ≡ old.setting
  pub words : length new.words.items ≡ length old.words.items
  pub stands : length new.stands.items ≡ length old.stands.items
  pub rooms : (x : Chain) → (side_room x new.history).room ≡ (side_room x old.history).room
  pub groups : length new.history.takes ≡ length old.history.takes

-- the step of this stepper, in this phase, was done
pub record Stepped (old : Board) (who : Stepper) (at : Phase) (kind : Kind) (new : Board) : Type 0 where
  pub kind_is : event_at at ≡ Event.Did kind
  pub state : state_of new ≡ stepped_from old.setting (state_of old) who.chain who.pass (stand_of who at)
  pub keeps : Keeps old new

-- a pass in its place
abbrev pub stepper_at : Board → ℕ → Stepper
stepper_at b p = record { pass = p; chain = chain_of b.setting.config p; begun = ((state_of b).stand p).begun; node = ((state_of b).stand p).node }

-- an event is the one step of its pass, and Idle if the pass has none: then nothing changes
pub record Moved (old : Board) (p : ℕ) (event : Event) (new : Board) : Type 0 where
  pub event_is : event ≡ event_at ((state_of old).stand p).phase
  pub state : event ≢ Event.Idle → state_of new ≡ stepped old.setting (state_of old) p
  pub idle : event ≡ Event.Idle → new ≡ old
  pub keeps : Keeps old new

-- the places at the opening, of a list that ends there
pub record StandFirst (c : Setting) (stands : List Stand) : Type 0 where
  pub all : length stands ≡ passes c
  pub each : (p : ℕ) → p < passes c → slice_index_or stands p nowhere ≡ record { begun = 0; node = first_node c.config p; phase = Phase.Idle }
