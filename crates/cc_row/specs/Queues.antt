-- Orders of calls at the queues of a row, in the words in which the calls of one queue are ordered.
use Rattle.std.specs.Prelude.{◌≡◌, ℕ, ◌<◌, ◌≤◌, ◌==◌, List, [], ◌∷◌, map, length, if◌then◌else◌}
use Rattle.cc_runs.specs.Linearizable.{Effect, IsExact}
use Rattle.cc_row.specs.Names.{Config, Pass, Chain}
use Rattle.cc_row.specs.Row.{At, StartsNext, IsRow, outside}

-- a call that takes effect at this queue
pub record AtQueue : Type 0 where
  pub at : ℕ
  pub effect : Effect

-- those at one queue
abbrev pub only : ℕ → List AtQueue → List Effect
only q [] = []
only q (e ∷ earlier) = if e.at == q then e.effect ∷ only q earlier else only q earlier

-- The row's number of a group, by a queue and the group's number there: a later queue may have fewer groups. A sender has none.
abbrev pub group_on : (names : ℕ → ℕ → ℕ) (q : ℕ) → Chain → ℕ
group_on names q Chain.Send = 0
group_on names q (Chain.Take g) = names q g

-- no two groups of a queue have one number
abbrev pub AreApart : (cfg : ℕ → Config) (names : ℕ → ℕ → ℕ) → Type 0
AreApart cfg names = (q g h : ℕ) → g < (cfg q).groups → h < (cfg q).groups → names q g ≡ names q h → g ≡ h

abbrev pub sender_of : Pass → ℕ
sender_of (Pass.Sender s) = s
sender_of (Pass.Receiver r) = 0

abbrev pub seen : (names : ℕ → ℕ → ℕ) → AtQueue → At
seen names e =
    record { queue = e.at; group = group_on names e.at e.effect.chain; sender = sender_of e.effect.entry.pass; number = e.effect.entry.number; call = e.effect.entry.call; answer = e.effect.answer }

-- a call at a queue takes effect after the queue before was closed; a take, after its group found that queue ended
abbrev pub InOrder : (names : ℕ → ℕ → ℕ) (last : ℕ) → List AtQueue → Type 0
InOrder names last [] = Unit {0}
InOrder names last (e ∷ earlier) = InOrder names last earlier × (e.at ≤ last) × StartsNext e.at (group_on names e.at e.effect.chain) e.effect.entry.call (map (seen names) earlier)

-- if each queue of a row answers exactly as a sequential queue, the row is one queue
abbrev pub ExactQueuesAreOne : Type 0
ExactQueuesAreOne = (cfg : ℕ → Config) (names : ℕ → ℕ → ℕ) (wide : Config) (last : ℕ) (order : List AtQueue) → AreApart cfg names → ((q : ℕ) → IsExact (cfg q) (only q order)) → InOrder names last order
    → length order ≤ wide.capacity → length order ≤ wide.life → IsRow (λ (q : ℕ). wide) 0 (outside last (map (seen names) order))
