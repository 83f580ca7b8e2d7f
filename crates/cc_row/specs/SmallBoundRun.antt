-- The small row of one item, by threads that keep the rules of the bound. A sender fills the first queue and closes
-- it, and a look finds the row full. The receiver takes the item. Then a look finds room, and the second queue gets an
-- item, while the group is still at the first one.
use Rattle.std.specs.Prelude.{◌≡◌, List, [], ◌∷◌, ◌++◌}
use Rattle.cc_runs.specs.OnChain.{answers_on}
use Rattle.cc_row.specs.Names.{Answer, SendAnswer, Chain}
use Rattle.cc_row.specs.SmallRun.{sends, takes}
use Rattle.cc_row.specs.SmallThreads.{small_row, with_moves, fills_first, takes_second}
use Rattle.cc_row.specs.Threads.{Role, RowEvent, IsKept, final_of}
use Rattle.cc_row.specs.BoundThreads.{queue_at, HasBound, HaveCome, KeepBound}
use Rattle.cc_row.specs.BoundedRuns.{GetsFull}

-- the receiver takes the item from the first queue
abbrev pub takes_item : List RowEvent
takes_item = with_moves (takes 0 22 []) (RowEvent.Looks 2 (Role.Takes 0) ∷ fills_first)

-- the moment of the look: a further queue is there
abbrev pub at_look : List RowEvent
at_look = RowEvent.Looks 0 Role.Sends ∷ RowEvent.Appends ∷ RowEvent.Leaves 0 ∷ takes_item

-- a send to the second queue
abbrev pub sends_narrow : List RowEvent
sends_narrow = with_moves (sends 1 27 []) at_look

-- the receiver finds that the first queue has ended, goes on, and takes the other item
abbrev pub small_bound_run : List RowEvent
small_bound_run = takes_second (with_moves (takes 0 14 []) sends_narrow)

pub record SmallBoundRun : Type 0 where
  pub has : HasBound small_row 1 1
  pub kept : IsKept small_row small_bound_run
  pub bound : KeepBound small_row 1 1 small_bound_run
  -- the second queue has accepted an item, and the row is still narrow
  pub is_narrow : HaveCome 1 1 sends_narrow → ⊥
  pub accepts : answers_on Chain.Send (queue_at small_row 1 sends_narrow).history ≡ Answer.Send (SendAnswer.Accepted 0) ∷ []
  -- a look that begins once the first queue is closed gets Full: the row is open
  pub gets_full : (later : List RowEvent) → later ++ fills_first ≡ small_bound_run
      → GetsFull small_row 1 1 (final_of small_bound_run) later fills_first
