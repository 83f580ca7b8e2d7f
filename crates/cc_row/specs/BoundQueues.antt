-- Orders of calls at the queues of a row with a bound, in the words in which the calls of one queue are ordered.
use Rattle.std.specs.Prelude.{◌≡◌, ℕ, ◌<◌, ◌≤◌, List, [], ◌∷◌, map, length}
use Rattle.cc_runs.specs.Linearizable.{IsExact}
use Rattle.cc_row.specs.Names.{Config, Body}
use Rattle.cc_row.specs.Queues.{AtQueue, only, seen, InOrder}
use Rattle.cc_row.specs.OneQueue.{own_name}
use Rattle.cc_row.specs.Bound.{RowCall, at_queues, IsFullRow, IsLetIn, told, IsQueue, IsWithin}

-- a call takes effect at a queue; or a send by this sender, with this number, gets Full by a look
pub data RowEffect : Type 0 where
  At : AtQueue → RowEffect
  Refused : ℕ → ℕ → Body → RowEffect

abbrev pub effects_in : List RowEffect → List AtQueue
effects_in [] = []
effects_in (RowEffect.At e ∷ earlier) = e ∷ effects_in earlier
effects_in (RowEffect.Refused sender number body ∷ earlier) = effects_in earlier

abbrev pub calls_in : List RowEffect → List RowCall
calls_in [] = []
calls_in (RowEffect.At e ∷ earlier) = RowCall.IsAt (seen own_name e) ∷ calls_in earlier
calls_in (RowEffect.Refused sender number body ∷ earlier) = RowCall.Refused sender number body ∷ calls_in earlier

-- each item is let in, and each look finds the row full
abbrev pub AreLetIn : (groups bound last : ℕ) → List RowEffect → Type 0
AreLetIn groups bound last [] = Unit {0}
AreLetIn groups bound last (RowEffect.At e ∷ earlier) = AreLetIn groups bound last earlier × IsLetIn groups bound last e.at e.effect.answer (map (seen own_name) (effects_in earlier))
AreLetIn groups bound last (RowEffect.Refused sender number body ∷ earlier) = AreLetIn groups bound last earlier × IsFullRow groups bound last (map (seen own_name) (effects_in earlier))

-- the queues of the row have the groups and the capacity of the one queue
pub record AreAlike (cfg : ℕ → Config) (one : Config) : Type 0 where
  pub some : 0 < one.groups
  pub groups : (q : ℕ) → (cfg q).groups ≡ one.groups
  pub capacity : (q : ℕ) → (cfg q).capacity ≡ one.capacity

-- If each queue of a row answers exactly as a sequential queue, and items are let in by the rules, the row is one queue with the bound.
abbrev pub BoundedQueuesAreOne : Type 0
BoundedQueuesAreOne = (cfg : ℕ → Config) (one : Config) (last : ℕ) (order : List RowEffect) → AreAlike cfg one → ((q : ℕ) → IsExact (cfg q) (only q (effects_in order))) → InOrder own_name last (effects_in order)
    → AreLetIn one.groups one.capacity last order → length order ≤ one.life
    → IsQueue one one.groups (told last (calls_in order)) × IsWithin one.groups one.capacity last (at_queues (calls_in order))
