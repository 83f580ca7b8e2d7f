-- The small run of a row, by threads that keep the rules. The sender's thread appends a queue once it has closed the first one; the
-- receiver's thread lets its group go on once a take returned Ended.
use Rattle.std.specs.Prelude.{◌≡◌, List, [], ◌∷◌}
use Rattle.cc_row.specs.Names.{Call}
use Rattle.cc_row.specs.OneQueue.{own_name}
use Rattle.cc_row.specs.Runs.{RowMove}
use Rattle.cc_row.specs.SmallRun.{queues, makes, sends, takes, small_run}
use Rattle.cc_row.specs.Threads.{Role, RowEvent, RowSetting, IsKept, moves_of, final_of}

-- a pass has a seat of its own
abbrev pub small_row : RowSetting
small_row = record { of = queues; names = own_name; seats = λ q p. p }

abbrev pub with_moves : List RowMove → List RowEvent → List RowEvent
with_moves [] earlier = earlier
with_moves (m ∷ moves) earlier = RowEvent.Moves m ∷ with_moves moves earlier

-- each step of the small threads, the first one in the last definition

-- a take from the second queue
abbrev pub takes_second : List RowEvent → List RowEvent
takes_second earlier = with_moves (takes 1 22 []) (RowEvent.Looks 2 (Role.Takes 0) ∷ RowEvent.GoesOn 0 ∷ RowEvent.Leaves 2 ∷ earlier)

-- two takes from the first one
abbrev pub takes_first : List RowEvent → List RowEvent
takes_first earlier = with_moves (takes 0 14 (takes 0 22 [])) (RowEvent.Looks 2 (Role.Takes 0) ∷ earlier)

-- a send to the second queue, which is appended
abbrev pub sends_second : List RowEvent → List RowEvent
sends_second earlier = RowEvent.Leaves 0 ∷ with_moves (sends 1 27 []) (RowEvent.Looks 0 Role.Sends ∷ RowEvent.Appends ∷ RowEvent.Leaves 0 ∷ earlier)

-- two sends to the first queue, and the close
abbrev pub fills_first : List RowEvent
fills_first = with_moves (makes 0 0 Call.Close 20 (sends 0 19 (sends 0 27 []))) (RowEvent.Looks 0 Role.Sends ∷ [])

abbrev pub small_threads : List RowEvent
small_threads = takes_second (takes_first (sends_second fills_first))

pub record SmallThreads : Type 0 where
  pub kept : IsKept small_row small_threads
  pub moves : moves_of small_threads ≡ small_run
  -- the row isn't closed for its callers
  pub is_open : final_of small_threads ≡ 2
