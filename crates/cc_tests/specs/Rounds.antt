-- A round of threads on a queue: the passes that come back, with the receipts of their calls.
use Rattle.std.specs.Prelude.{◌≡◌, ℕ, ◌*◌, List, [], ◌∷◌, ◌++◌, length, map, Option, Some, Ok}
use Rattle.cc_model.specs.Config.{config_fault}
use Rattle.cc_audit.specs.Receipts.{total_of}
use Rattle.cc_runs.specs.ChainLaws.{IsLastAnswer}
use Rattle.cc_runs.specs.Words.{groups}
use Rattle.cc_steps.specs.Topic.{Topic}
use Rattle.cc_steps.specs.Walk.{Walk, fresh}
use Rattle.cc_queue.specs.Headline.{name, history}
use Rattle.cc_queue.specs.Met.{HaveSeenOne}
use Rattle.cc_queue.specs.Receipts.{AreInRow, receipts_in, seen_by, sent, got}
use Rattle.cc_drive.specs.Names.{Config, Entry, Answer, CloseAnswer, SendReceipt, TakeReceipt}
use Rattle.cc_drive.specs.Back.{IsBack, calls}
use Rattle.cc_drive.specs.Ran.{total_in}
use Rattle.cc_drive.specs.Row.{InRow}

-- a pass that has seen nothing yet
abbrev pub IsFresh : Topic → Walk → Type 0
IsFresh z w = w ≡ fresh z w.number

-- the receipts of each of these passes, of all its calls
abbrev pub receipts_each : {X : Type 0} → (Entry × Option Answer → List X) → List Walk → List (List X)
receipts_each receipts ws = map (λ w. receipts_in receipts (calls w)) ws

-- the pass of this place in the row of all passes is back, with the receipts of all its calls
pub record HasKept {X : Type 0} (receipts : Entry × Option Answer → List X) (z : Topic) (row : ℕ) (w : Walk) (kept : List X) : Type 0 where
  pub back : IsBack z row w
  pub all : kept ≡ receipts_in receipts (calls w)

-- the passes from this place on are back, each with its receipts
pub record HaveKept {X : Type 0} (receipts : Entry × Option Answer → List X) (z : Topic) (first : ℕ) (ws : List Walk) (kept : List (List X)) : Type 0 where
  pub back : InRow (IsBack z) first ws
  pub all : kept ≡ receipts_each receipts ws

-- the last of these senders closed its queue, as its last call, and this was the answer
pub record HasClosed (told : CloseAnswer) (senders : List Walk) : Type 0 where
  pub others : List Walk
  pub closer : Walk
  pub last : senders ≡ others ++ closer ∷ []
  pub closed : IsLastAnswer (name closer) (history closer) (Answer.Close told)

-- All passes of a queue of this configuration are back, each with its receipts, and the last sender closed it.
pub record HasPlayed (c : Config) (z : Topic) (senders receivers : List Walk) (sends : List (List SendReceipt)) (takes : List (List TakeReceipt)) (told : CloseAnswer) : Type 0 where
  pub valid : config_fault c ≡ Ok tt
  pub config : z.setting.config ≡ c
  pub count_senders : length senders ≡ c.senders
  pub count_receivers : length receivers ≡ groups c * c.receivers
  pub sent_all : HaveKept sent z 0 senders sends
  pub took_all : HaveKept got z c.senders receivers takes
  pub closed : HasClosed told senders

-- They have met: the row of all passes, their receipts, and the total of the close, as the audit asks for them.
pub record AreSettled (c : Config) (z : Topic) (senders receivers : List Walk) (sends : List (List SendReceipt)) (takes : List (List TakeReceipt)) (told : CloseAnswer) : Type 0 where
  pub valid : config_fault c ≡ Ok tt
  pub config : z.setting.config ≡ c
  pub senders_are : AreInRow z 0 z.setting.config.senders senders
  pub receivers_are : AreInRow z z.setting.config.senders (groups z.setting.config * z.setting.config.receivers) receivers
  pub one : HaveSeenOne senders receivers []
  pub sends_are : sends ≡ receipts_each sent senders
  pub takes_are : takes ≡ receipts_each got receivers
  pub total : total_of (seen_by senders) ≡ Some (total_in told)
