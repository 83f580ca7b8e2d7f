-- The way back: a row of one queue is an order of one queue, in the words in which the calls of one queue are ordered.
use Rattle.std.specs.Prelude.{ℕ, ◌≤◌, List, [], ◌∷◌, map, length}
use Rattle.std.specs.List.{AllByRecursion}
use Rattle.cc_runs.specs.OnChain.{IsThere}
use Rattle.cc_runs.specs.Linearizable.{Effect, IsExact, IsOfChain}
use Rattle.cc_row.specs.Names.{Config}
use Rattle.cc_row.specs.Row.{IsRow}
use Rattle.cc_row.specs.Queues.{AtQueue, seen}

-- calls of one queue, as calls of a row with this queue alone
abbrev pub alone : List Effect → List AtQueue
alone [] = []
alone (e ∷ earlier) = record { at = 0; effect = e } ∷ alone earlier

-- a group has its own number
abbrev pub own_name : ℕ → ℕ → ℕ
own_name q g = g

-- a pass of the configuration can make the call
abbrev pub IsMadeThere : Config → Effect → Type 0
IsMadeThere cfg e = IsThere cfg e.chain × IsOfChain cfg e.chain e.entry

-- If passes of a queue make the calls of an order, and the queue has room for all of them, the order is one of the queue exactly if
-- it is a row of this queue alone.
pub record OneQueueIsARow : Type 0 where
  pub back : (cfg : Config) (order : List Effect) → AllByRecursion (IsMadeThere cfg) order → length order ≤ cfg.capacity → IsRow (λ (q : ℕ). cfg) 0 (map (seen own_name) (alone order)) → IsExact cfg order
  pub forth : (cfg : Config) (order : List Effect) → IsExact cfg order → IsRow (λ (q : ℕ). cfg) 0 (map (seen own_name) (alone order))
