-- The queues of a row, as a log that only grows.
use Rattle.std.specs.Prelude.{
  ◌≡◌,
  ℕ,
  zero,
  suc,
  ◌+◌,
  ◌<◌,
  Bool,
  true,
  false,
  List,
  [],
  ◌∷◌,
  ◌++◌,
  length,
  slice_index_or,
}
use Rattle.cc_model.specs.Items.{accepted, is_shut}
use Rattle.cc_runs.specs.Run.{IsRun}
use Rattle.cc_steps.specs.Topic.{Topic}
use Rattle.cc_steps.specs.Noted.{Noted, IsNoteOf}
use Rattle.cc_queue.specs.Noted.{noted_history}
use mathlib.Core.List.{IsPrefix}
use Rattle.cc_model.specs.Items.{handed}
use Rattle.cc_model.specs.Legal.{Legal}
use Rattle.cc_switch.specs.declared.links.Link.{Link}
use Rattle.cc_switch.specs.declared.links.RowLog.{RowLog}

-- the queue of a note
abbrev pub topic_of : Noted → Topic
topic_of n = record { table_id = n.table_id; setting = n.setting }

-- how many items the queue of a note accepted
abbrev pub total_of : Noted → ℕ
total_of n = length (accepted (noted_history n))

-- By this note of a queue it was shut.
pub record IsShutBy (z : Topic) (n : Noted) : Type 0 where
  pub of : IsNoteOf z n
  pub run : IsRun n.setting n.seen
  pub legal : Legal n.setting.config (noted_history n)
  pub shut : is_shut (noted_history n) ≡ true

-- the queue of this number, from 0 on, of a row that began with `first`
abbrev pub queue_at : Topic → List Link → ℕ → Topic
queue_at first links zero = first
queue_at first [] (suc k) = first
queue_at first (l ∷ links) (suc k) = queue_at (topic_of l.next) links k

-- how many items the queues before it accepted
abbrev pub base_at : List Link → ℕ → ℕ
base_at links zero = 0
base_at [] (suc k) = 0
base_at (l ∷ links) (suc k) = total_of l.shut + base_at links k

-- each queue but the last one was shut
abbrev pub AreShut : Topic → List Link → Type 0
AreShut first [] = Unit {0}
AreShut first (l ∷ links) = IsShutBy first l.shut × AreShut (topic_of l.next) links

-- By this note of a queue it was shut, and this group was handed all its items. Groups count from 0 here.
pub record IsEndedBy (g : ℕ) (z : Topic) (n : Noted) : Type 0 where
  pub shut : IsShutBy z n
  pub has : g < n.setting.config.groups
  pub all : length (handed (noted_history n) g) ≡ total_of n

-- The group is done with the first of the queues, by these notes, which have the totals of the links.
abbrev pub AreEnded : (g : ℕ) → Topic → List Link → List Noted → Type 0
AreEnded g first links [] = Unit {0}
AreEnded g first [] (n ∷ ended) = ⊥
AreEnded g first (l ∷ links) (n ∷ ended) =
    IsEndedBy g first n × (total_of n ≡ total_of l.shut) × AreEnded g (topic_of l.next) links ended

-- the notes after one more, or the same
abbrev pub added : Bool → Noted → List Noted → List Noted
added true n ended = ended ++ n ∷ []
added false n ended = ended

-- the notes of a group
abbrev pub done_by : List (List Noted) → (g : ℕ) → List Noted
done_by ended g = slice_index_or ended g []

abbrev pub no_log : RowLog
no_log = record { links = []; ended = [] }

-- a log goes on from another
pub record GoesOnFrom (a b : RowLog) : Type 0 where
  pub links : IsPrefix a.links b.links
  pub ended : (g : ℕ) → IsPrefix (done_by a.ended g) (done_by b.ended g)
