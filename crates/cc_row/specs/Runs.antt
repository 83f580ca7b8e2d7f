-- Runs of the queues of a row, move by move, and the order of their calls: as of the runs of one queue.
use Rattle.std.specs.Prelude.{◌≡◌, ℕ, suc, ◌<◌, ◌≤◌, ◌==◌, true, List, [], ◌∷◌, ◌++◌, map, length, if◌then◌else◌, Ok}
use Rattle.std.specs.List.{list_any}
use Rattle.cc_model.specs.Config.{config_fault}
use Rattle.cc_model.specs.Items.{is_shut}
use Rattle.cc_runs.specs.Run.{IsRun, history_of}
use Rattle.cc_runs.specs.OnChain.{calls_on, answers_on}
use Rattle.cc_runs.specs.Linearizable.{IsExact, IsOnTime, replay}
use Rattle.cc_row.specs.Names.{Config, Chain, Setting, Served, Move}
use Rattle.cc_row.specs.Row.{ends, IsRow, outside}
use Rattle.cc_row.specs.Queues.{AtQueue, AreApart, only, seen}

-- a move of this queue
pub record RowMove : Type 0 where
  pub at : ℕ
  pub move : Move

-- those of one queue, the newest first
abbrev pub moves_at : ℕ → List RowMove → List Move
moves_at q [] = []
moves_at q (m ∷ earlier) = if m.at == q then m.move ∷ moves_at q earlier else moves_at q earlier

-- a take of the group with this number in the row returned Ended at this queue
pub record FoundEnded (c : Setting) (names : ℕ → ℕ) (moves : List Move) (name : ℕ) : Type 0 where
  pub group : ℕ
  pub inside : group < c.config.groups
  pub named : names group ≡ name
  pub ended : list_any ends (answers_on (Chain.Take group) (history_of c moves)) ≡ true

-- By now a queue has calls of senders only if a close of the queue before it was answered, and calls of a group only if a take of that
-- group returned Ended there.
pub record UsedInOrder (c : ℕ → Setting) (names : ℕ → ℕ → ℕ) (moves : List RowMove) : Type 0 where
  pub senders : (q : ℕ) → 0 < length (calls_on Chain.Send (history_of (c (suc q)) (moves_at (suc q) moves))) → is_shut (history_of (c q) (moves_at q moves)) ≡ true
  pub takers : (q g : ℕ) → g < (c (suc q)).config.groups → 0 < length (calls_on (Chain.Take g) (history_of (c (suc q)) (moves_at (suc q) moves))) → FoundEnded (c q) (names q) (moves_at q moves) (names (suc q) g)

-- at each moment, and all moves are of queues up to the last one
abbrev pub IsUsed : (c : ℕ → Setting) (names : ℕ → ℕ → ℕ) (last : ℕ) → List RowMove → Type 0
IsUsed c names last [] = Unit {0}
IsUsed c names last (m ∷ earlier) = IsUsed c names last earlier × (m.at ≤ last) × UsedInOrder c names (m ∷ earlier)

pub record IsRowRun (c : ℕ → Setting) (names : ℕ → ℕ → ℕ) (last : ℕ) (moves : List RowMove) : Type 0 where
  pub serves : (q : ℕ) → (c q).served ≡ Served.List
  pub checked : (q : ℕ) → config_fault (c q).config ≡ Ok tt
  pub apart : AreApart (λ q. (c q).config) names
  pub runs : (q : ℕ) → IsRun (c q) (moves_at q moves)
  pub used : IsUsed c names last moves

-- the calls that take effect at each move, as one list
abbrev pub flat : List (List AtQueue) → List AtQueue
flat [] = []
flat (now ∷ earlier) = now ++ flat earlier

-- at each moment, each call at a queue that was answered has taken effect, and only calls that had exchanged
abbrev pub IsRowTimely : (c : ℕ → Setting) → List RowMove → List (List AtQueue) → Type 0
IsRowTimely c [] [] = Unit {0}
IsRowTimely c (m ∷ earlier) (now ∷ before) =
    IsRowTimely c earlier before × ((q : ℕ) → IsOnTime (history_of (c q) (moves_at q (m ∷ earlier))) (replay (c q).config.groups (only q (now ++ flat before))))
IsRowTimely c _ _ = ⊥

pub record IsRowLinearization (c : ℕ → Setting) (names : ℕ → ℕ → ℕ) (last : ℕ) (moves : List RowMove) (effects : List (List AtQueue)) : Type 0 where
  pub timely : IsRowTimely c moves effects
  pub exact : (q : ℕ) → IsExact (c q).config (only q (flat effects))
  -- and from outside it is an order of one queue
  pub one : (wide : Config) → length (flat effects) ≤ wide.capacity → length (flat effects) ≤ wide.life → IsRow (λ (q : ℕ). wide) 0 (outside last (map (seen names) (flat effects)))

-- each run of a row has such an order
abbrev pub RowsAreLinearizable : Type 0
RowsAreLinearizable = (c : ℕ → Setting) (names : ℕ → ℕ → ℕ) (last : ℕ) (moves : List RowMove) → IsRowRun c names last moves → (effects : List (List AtQueue)) × IsRowLinearization c names last moves effects
