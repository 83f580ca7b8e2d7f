-- The queues of a row that its lock guards.
use Rattle.std.specs.Prelude.{◌≡◌, ℕ, ◌+◌, ◌-◌, ◌<◌, ◌≤◌, Bool, List, length, slice_index_or}
use lib.ListN.{set}
use Rattle.cc_steps.specs.Noted.{Noted}
use Rattle.cc_steps.specs.Topic.{Topic}
use Rattle.cc_switch.specs.Links.{queue_at, base_at, AreShut, AreEnded, done_by, added}
use Rattle.cc_switch.specs.declared.links.RowLog.{RowLog}
use Rattle.cc_switch.specs.Begin.{Begin}
use Rattle.cc_switch.specs.declared.links.Link.{Link}
use Rattle.cc_switch.specs.declared.stages.Stages.{Stages}

-- what the threads of the row know
abbrev pub log_of : Stages → RowLog
log_of t = record { links = t.links.items; ended = t.ended.items }

-- it is the queue of this number
pub record IsStageAt (first : Topic) (links : List Link) (number : ℕ) (s : Begin) : Type 0 where
  pub queue : s.queue ≡ queue_at first links number
  pub base : s.base ≡ base_at links number

-- the last queue, and the queues before it that some group isn't done with
pub record KeepsStages (first : Topic) (t : Stages) : Type 0 where
  pub shut : AreShut first t.links.items
  pub ended : (g : ℕ) → AreEnded g first t.links.items (done_by t.ended.items g)
  pub few : length t.older.items ≤ length t.links.items
  -- the queue that a group is at is among them
  pub kept : (g : ℕ) → g < length t.ended.items
      → length t.links.items ≤ length (done_by t.ended.items g) + length t.older.items
  pub older : (k : ℕ) (d : Begin) → k < length t.older.items
      → IsStageAt first t.links.items (length t.links.items - length t.older.items + k)
      (slice_index_or t.older.items k d)
  pub last : IsStageAt first t.links.items (length t.links.items) t.last

-- a queue of the row, by its number, with how many items the queues before it accepted
pub record IsAtQueue (first : Topic) (t : Stages) (number base : ℕ) (queue : Topic) : Type 0 where
  pub keeps : KeepsStages first t
  pub few : number ≤ length t.links.items
  pub queue_is : queue ≡ queue_at first t.links.items number
  pub base_is : base ≡ base_at t.links.items number

-- the notes of all groups, after this one was done with one more queue, or not
abbrev pub with_ended : Bool → (g : ℕ) → Noted → List (List Noted) → List (List Noted)
with_ended b g n ended = set ended g (added b n (done_by ended g))

-- a change that nobody sees
pub record IsSame (t u : Stages) : Type 0 where
  pub links : u.links.items ≡ t.links.items
  pub older : u.older.items ≡ t.older.items
  pub last : u.last ≡ t.last
  pub ended : u.ended.items ≡ t.ended.items
  pub closing : u.closing ≡ t.closing
