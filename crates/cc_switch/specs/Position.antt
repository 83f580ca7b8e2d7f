-- The place of a pass in a row.
use Rattle.std.specs.Prelude.{◌≡◌, ℕ, ◌+◌, ◌<◌, ◌≤◌, length}
use Rattle.cc_guard.specs.Guard.{LockId, Looked, IsLookAt}
use Rattle.cc_steps.specs.Topic.{Topic}
use Rattle.cc_steps.specs.Walk.{Walk, IsOf}
use Rattle.cc_queue.specs.Group.{Ranked}
use Rattle.cc_switch.specs.Links.{queue_at, base_at, AreShut, AreEnded, done_by}
use Rattle.cc_switch.specs.declared.links.RowLog.{RowLog}

-- which row, what was seen of it, and the queue: its number, and how many items the queues before it accepted
pub record Spot : Type 0 where
  pub row : LockId Topic
  pub seen : RowLog
  pub number : ℕ
  pub base : ℕ
  pub queue : Topic

-- the queue is that of the number in the row
pub record IsInRow (row : LockId Topic) (l : Looked RowLog Topic) (number base : ℕ) (queue : Topic) : Type 0 where
  pub look : IsLookAt row l
  pub few : number ≤ length l.seen.links
  pub queue_is : queue ≡ queue_at row.key l.seen.links number
  pub base_is : base ≡ base_at l.seen.links number
  pub shut : AreShut row.key l.seen.links
  pub ended : (g : ℕ) → AreEnded g row.key l.seen.links (done_by l.seen.ended g)

-- the same of a spot
pub record IsSpot (s : Spot) : Type 0 where
  pub few : s.number ≤ length s.seen.links
  pub queue_is : s.queue ≡ queue_at s.row.key s.seen.links s.number
  pub base_is : s.base ≡ base_at s.seen.links s.number
  pub shut : AreShut s.row.key s.seen.links
  pub ended : (g : ℕ) → AreEnded g s.row.key s.seen.links (done_by s.seen.ended g)

-- a pass of a row, and the group of a receiver, from 0 on; of a sender it is 0
pub record RowWalk : Type 0 where
  pub spot : Spot
  pub pass : Walk
  pub group : ℕ

-- The receiver is of its queue and its group, and the group is done with all queues before that one.
pub record IsTaker (s : Spot) (w : Walk) (g : ℕ) : Type 0 where
  pub of : IsOf s.queue w
  pub ranked : Ranked w (g + 1)
  pub low : s.number ≤ length (done_by s.seen.ended g)
  pub has : g < s.queue.setting.config.groups
