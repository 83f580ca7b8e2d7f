-- The events of a run, as a page and a trace list them.
use Rattle.std.specs.Prelude.{ℕ, ◌≡◌, List, [], ◌∷◌, ◌++◌}
use Rattle.cc_show.specs.Names.{ShownEvent, Event, Kind, Move, Word}
use Rattle.cc_runs.specs.Lines.{event_at, operation}
use Rattle.cc_runs.specs.State.{State, chain_of, pass_at, word_of}
use Rattle.cc_runs.specs.Run.{reached}
use Rattle.cc_machine.specs.View.{View}
use Rattle.cc_plan.specs.Plan.{PlanValue}
use Rattle.cc_play.specs.Schedule.{setting_of, phase_in, begun_in, IsAt}

-- how many events a page shows at most
abbrev pub event_limit : ℕ
event_limit = 20000

-- the word that the next step of the pass in this row is on, in a state
abbrev pub touched : PlanValue → State → ℕ → Word
touched plan s row = word_of (operation (setting_of plan) (chain_of plan.config row) (s.stand row).node (s.stand row).phase)

-- the step of the pass in this row, of this kind, after the earlier moves: its word has one value before it and one after it
abbrev pub done_at : PlanValue → List Move → ℕ → Kind → ShownEvent
done_at plan earlier row kind = record {
  row = row;
  pass = pass_at plan.config row;
  call = begun_in row earlier;
  kind = kind;
  word = touched plan (reached (setting_of plan) earlier) row;
  before = (reached (setting_of plan) earlier).mem (touched plan (reached (setting_of plan) earlier) row);
  after = (reached (setting_of plan) (Move.Step row ∷ earlier)).mem (touched plan (reached (setting_of plan) earlier) row);
}

-- an event comes after the earlier ones, if it was one
abbrev pub noted : Event → (Kind → ShownEvent) → List ShownEvent → List ShownEvent
noted (Event.Did kind) done events = events ++ done kind ∷ []
noted Event.Idle done events = events

-- the events of a run, the first one first: its steps
abbrev pub happened : PlanValue → List Move → List ShownEvent
happened plan [] = []
happened plan (Move.Step row ∷ earlier) = noted (event_at (phase_in plan earlier row)) (done_at plan earlier row) (happened plan earlier)
happened plan (Move.Begin row call known ∷ earlier) = happened plan earlier
happened plan (Move.Take row ∷ earlier) = happened plan earlier

-- the machine is at the end of the run, and these are its events
pub record Stands (plan : PlanValue) (m : View) (begun : List ℕ) (events : List ShownEvent) (run : List Move) : Type 0 where
  pub at : IsAt plan m begun run
  pub told : events ≡ happened plan run
