-- The gates that the workers of a run asked.
use Rattle.std.specs.Prelude.{ℕ, ◌≡◌, ◌+◌, ◌++◌, List, Option, None, length, map}
use Rattle.cc_drive.specs.Names.{DriveConfig, Go, Point, SendReceipt, TakeReceipt, Worked}
use Rattle.cc_steps.specs.Topic.{Topic}
use Rattle.cc_steps.specs.Walk.{Walk}
use Rattle.cc_drive.specs.Back.{ReceiverGave, SenderGave, SendsByGate, TakesByGate}
use Rattle.cc_drive.specs.Crew.{least_missing}
use Rattle.cc_drive.specs.Jobs.{IsQueueOf}
use Rattle.cc_drive.specs.Row.{InRowWith}
use Rattle.cc_drive.specs.declared.jobs.Workers.{Workers}

-- the gates of workers: the senders' first
abbrev pub gates_in : {G : Type 0} → Workers G → List G
gates_in all = map (λ j. j.gate) all.senders.items ++ map (λ j. j.gate) all.receivers.items

-- This number of senders have ended, of which this is the least that came to a limit. Each asked its own gate: the first
-- sender the first of these gates, and so on.
pub record SendersAsked {G : Type 0} (tells : G → Point → Go → G → Type 0) (z : Topic) (items limit count : ℕ) (limited : Option ℕ) (gates : List G) : Type 0 where
  pub workers : List (Worked Walk SendReceipt)
  pub many : length workers ≡ count
  pub missing : limited ≡ least_missing 0 (map (λ d. d.pass) workers)
  pub asked : InRowWith (λ n d g. SenderGave z items limit n d × SendsByGate tells g z items limit n d) 0 workers gates

-- And of receivers, which come from this place on in the row of all passes, and whose numbers are from this one on.
pub record ReceiversAsked {G : Type 0} (tells : G → Point → Go → G → Type 0) (z : Topic) (limit place number count : ℕ) (limited : Option ℕ) (gates : List G) : Type 0 where
  pub workers : List (Worked Walk TakeReceipt)
  pub many : length workers ≡ count
  pub missing : limited ≡ least_missing number (map (λ d. d.pass) workers)
  pub asked : InRowWith (λ n d g. ReceiverGave z limit n d × TakesByGate tells g z limit n d) place workers gates

-- A queue was opened for the configuration, and each worker of its run came to its end and asked its own one of these gates,
-- in their order: the senders' gates come first.
pub record WereAsked {G : Type 0} (tells : G → Point → Go → G → Type 0) (gates : List G) (c : DriveConfig) : Type 0 where
  pub sending : List G
  pub taking : List G
  pub in_order : sending ++ taking ≡ gates
  pub count_sending : length sending ≡ c.senders
  pub queue : Topic
  pub opened : IsQueueOf c queue
  pub senders : SendersAsked tells queue c.items c.limit c.senders None sending
  pub receivers : ReceiversAsked tells queue c.limit (c.senders + 1) c.senders c.receivers None taking
