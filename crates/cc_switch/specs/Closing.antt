-- A sender that has closed its queue, to go on.
use Rattle.std.specs.Prelude.{◌≡◌, ℕ}
use Rattle.cc_runs.specs.ChainLaws.{IsLastAnswer}
use Rattle.cc_queue.specs.Names.{Answer, CloseAnswer, TakeAnswer}
use Rattle.cc_queue.specs.Headline.{name, history}
use Rattle.cc_steps.specs.Noted.{noted_by}
use Rattle.cc_steps.specs.Topic.{Topic}
use Rattle.cc_steps.specs.Walk.{Walk}
use Rattle.cc_switch.specs.Position.{RowWalk}
use Rattle.cc_switch.specs.Links.{IsShutBy, IsEndedBy, total_of}

-- the answer of a close, with this total
abbrev pub TellsClosed : ℕ → Answer → Type 0
TellsClosed total (Answer.Close (CloseAnswer.Shut t)) = t ≡ total
TellsClosed total (Answer.Close (CloseAnswer.Already t)) = t ≡ total
TellsClosed total _ = ⊥

-- the last call of the pass was a close, which was answered with this total
abbrev pub HasClosed : Walk → ℕ → Type 0
HasClosed w total = (told : Answer) × IsLastAnswer (name w) (history w) told × TellsClosed total told

-- the pass knows that its queue was shut, and how many items that accepted
pub record KnowsShut (z : Topic) (w : Walk) (total : ℕ) : Type 0 where
  pub shut : IsShutBy z (noted_by w)
  pub total_is : total_of (noted_by w) ≡ total

-- a pass that has left its queue, with the total that the queue accepted
pub record LeftWalk : Type 0 where
  pub at : RowWalk
  pub total : ℕ

-- the last call of the pass was a take, which returned Ended with this total
abbrev pub HasEnded : Walk → ℕ → Type 0
HasEnded w total = IsLastAnswer (name w) (history w) (Answer.Take (TakeAnswer.Ended total))

-- the pass knows that this group was handed all items of the queue, which was shut
pub record KnowsEnded (g : ℕ) (z : Topic) (w : Walk) (total : ℕ) : Type 0 where
  pub ended : IsEndedBy g z (noted_by w)
  pub total_is : total_of (noted_by w) ≡ total
