-- A receiver goes on to the queue that its group is at.
use Rattle.std.specs.Prelude.{◌≡◌, ℕ, ◌+◌, ◌<◌, ◌≤◌, length, slice_index_or}
use Rattle.cc_queue.specs.Met.{HasMet}
use Rattle.cc_queue.specs.Group.{Ranked}
use Rattle.cc_steps.specs.Topic.{Topic}
use Rattle.cc_steps.specs.Walk.{Walk, IsOf}
use Rattle.cc_switch.specs.Links.{queue_at, base_at, total_of, done_by}
use Rattle.cc_switch.specs.Links.{GoesOnFrom}
use Rattle.cc_switch.specs.Closing.{LeftWalk, KnowsEnded}
use Rattle.cc_switch.specs.Going.{GoesTo, Stays}
use Rattle.cc_switch.specs.Stages.{KeepsStages, log_of}
use Rattle.cc_switch.specs.declared.links.Link.{Link}
use Rattle.cc_switch.specs.declared.stages.Stages.{Stages}
use Rattle.cc_switch.specs.declared.receiving.TakenOn.{TakenOn}

-- Under the lock of the row: the group has taken all of the queue of this number.
pub record HasOver (g : ℕ) (first : Topic) (t : Stages) (number base : ℕ) (queue : Topic) (w : Walk) (total : ℕ) : Type
    0 where
  pub keeps : KeepsStages first t
  pub few : number ≤ length (done_by t.ended.items g)
  pub queue_is : queue ≡ queue_at first t.links.items number
  pub base_is : base ≡ base_at t.links.items number
  pub here : IsOf queue w
  pub ranked : Ranked w (g + 1)
  pub knows : KnowsEnded g queue w total

-- the row goes on from what it was, and the pass did nothing
pub record OverMoves (g : ℕ) (first : Topic) (t u : Stages) (number base : ℕ) (queue : Topic) (v w : Walk)
    (total : ℕ) : Type 0
  where
    pub over : HasOver g first u number base queue w total
    pub onward : GoesOnFrom (log_of t) (log_of u)
    pub met : HasMet v w

-- the queue was shut with this total
abbrev pub IsAgreed : Stages → ℕ → ℕ → Type 0
IsAgreed t number total = (d : Link) → total_of (slice_index_or t.links.items number d).shut ≡ total

-- a receiver of the queue that the group is at, with that and how many items those before it accepted
pub record IsNext (g : ℕ) (first : Topic) (u : Stages) (number base total : ℕ) (x : Walk) (queue : Topic)
    (base' : ℕ) : Type 0
  where
    pub of : IsOf queue x
    pub ranked : Ranked x (g + 1)
    pub has : g < queue.setting.config.groups
    pub later : number < length (done_by u.ended.items g)
    pub few : length (done_by u.ended.items g) ≤ length u.links.items
    pub queue_is : queue ≡ queue_at first u.links.items (length (done_by u.ended.items g))
    pub base_is : base' ≡ base_at u.links.items (length (done_by u.ended.items g))
    pub above : base + total ≤ base'

abbrev pub TookOn : LeftWalk → TakenOn → Type 0
TookOn l (TakenOn.Busy same) = same ≡ l
TookOn l (TakenOn.Gone receiver) = GoesTo l receiver
TookOn l (TakenOn.Last same closing) = Stays l same × (same.at.spot.number ≡ length same.at.spot.seen.links)
TookOn l (TakenOn.Stays same closing) = Stays l same
