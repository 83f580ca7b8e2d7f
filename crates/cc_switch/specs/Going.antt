-- A sender goes on to a later queue of its row.
use Rattle.std.specs.Prelude.{◌≡◌, ℕ, ◌+◌, ◌<◌, ◌≤◌, length}
use Rattle.cc_queue.specs.Met.{HasMet}
use Rattle.cc_steps.specs.Topic.{Topic}
use Rattle.cc_steps.specs.Walk.{Walk, IsOf}
use Rattle.cc_switch.specs.Links.{GoesOnFrom, queue_at, base_at}
use Rattle.cc_switch.specs.Position.{RowWalk}
use Rattle.cc_switch.specs.Closing.{LeftWalk, KnowsShut}
use Rattle.cc_switch.specs.Stages.{KeepsStages, log_of}
use Rattle.cc_switch.specs.declared.stages.Stages.{Stages}
use Rattle.cc_switch.specs.declared.going.GoneOn.{GoneOn}

-- Under the lock of the row: the pass has left the queue of this number.
pub record HasLeft (first : Topic) (t : Stages) (number base : ℕ) (queue : Topic) (w : Walk) (total : ℕ) : Type 0 where
  pub keeps : KeepsStages first t
  pub few : number ≤ length t.links.items
  pub queue_is : queue ≡ queue_at first t.links.items number
  pub base_is : base ≡ base_at t.links.items number
  pub here : IsOf queue w
  pub knows : KnowsShut queue w total

-- the row goes on from what it was, and the pass did nothing
pub record Moves (first : Topic) (t u : Stages) (number base : ℕ) (queue : Topic) (v w : Walk) (total : ℕ) : Type 0
  where
    pub left : HasLeft first u number base queue w total
    pub onward : GoesOnFrom (log_of t) (log_of u)
    pub met : HasMet v w

-- a pass is of the last queue, whose items come after those that were left
pub record IsBehind (u : Stages) (number base total : ℕ) (w : Walk) : Type 0 where
  pub of : IsOf u.last.queue w
  pub later : number < length u.links.items
  pub above : base + total ≤ u.last.base

-- The pass is at a later queue of the same row. The items of the queue that it has left come before all items of that
-- one.
pub record GoesTo (l : LeftWalk) (w : RowWalk) : Type 0 where
  pub group : w.group ≡ l.at.group
  pub row : w.spot.row ≡ l.at.spot.row
  pub seen : GoesOnFrom l.at.spot.seen w.spot.seen
  pub later : l.at.spot.number < w.spot.number
  pub above : l.at.spot.base + l.total ≤ w.spot.base

-- the pass stays where it is
pub record Stays (l m : LeftWalk) : Type 0 where
  pub group : m.at.group ≡ l.at.group
  pub row : m.at.spot.row ≡ l.at.spot.row
  pub seen : GoesOnFrom l.at.spot.seen m.at.spot.seen
  pub number : m.at.spot.number ≡ l.at.spot.number
  pub base : m.at.spot.base ≡ l.at.spot.base
  pub total : m.total ≡ l.total
  pub met : HasMet l.at.pass m.at.pass

abbrev pub WentOn : LeftWalk → GoneOn → Type 0
WentOn l (GoneOn.Busy same spare) = same ≡ l
WentOn l (GoneOn.Gone sender spare) = GoesTo l sender
WentOn l (GoneOn.Stays same spare closing) = Stays l same
