-- Orders of the runs of a queue that follow the counts: no take that gets an item is in the order before it is
-- counted. Once the queue is shut, a take is in the order as soon as it is counted, also if its answer is decided
-- later, or never.
use Rattle.std.specs.Prelude.{◌≡◌, ℕ, ◌<◌, ◌≤◌, true, List, [], ◌∷◌, ◌++◌, length, Ok}
use Rattle.cc_model.specs.Config.{config_fault}
use Rattle.cc_model.specs.Items.{is_shut, handed}
use Rattle.cc_runs.specs.Run.{IsRun, history_of, reached}
use Rattle.cc_runs.specs.Counts.{counted_for}
use Rattle.cc_runs.specs.Linearizable.{Effect, replay, IsExact, in_order, IsTimely}
use Rattle.cc_row.specs.Names.{Setting, Served, Move}

-- at each moment; the second half is of a queue that is shut by then
abbrev pub FollowsCounts : Setting → List Move → List (List Effect) → Type 0
FollowsCounts c [] [] = Unit {0}
FollowsCounts c (m ∷ earlier) (now ∷ before) = FollowsCounts c earlier before
    × ((g : ℕ) → g < c.config.groups
    → length (handed (replay c.config.groups (now ++ in_order before)) g) ≤ counted_for (reached c (m ∷ earlier)) g)
    × (is_shut (history_of c (m ∷ earlier)) ≡ true → (g : ℕ) → g < c.config.groups
    → counted_for (reached c (m ∷ earlier)) g ≤ length (handed (replay c.config.groups (now ++ in_order before)) g))
FollowsCounts c _ _ = ⊥

-- Each call takes effect between its exchange and its answer, and a sequential queue gives the same answers.
pub record HasCountedOrder (c : Setting) (moves : List Move) : Type 0 where
  pub effects : List (List Effect)
  pub timely : IsTimely c moves effects
  pub exact : IsExact c.config (in_order effects)
  pub follows : FollowsCounts c moves effects

-- each run of a list has such an order
abbrev pub OrdersFollowCounts : Type 0
OrdersFollowCounts = (c : Setting) (moves : List Move) → c.served ≡ Served.List → config_fault c.config ≡ Ok tt → IsRun c moves → HasCountedOrder c moves
