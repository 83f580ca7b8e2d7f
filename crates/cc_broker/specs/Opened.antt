-- A broker at its opening, and why one wasn't opened.
use Rattle.std.specs.Prelude.{◌≡◌, ℕ, ◌+◌, ◌≤◌, ◌<◌, List, [], ◌∷◌, length, slice_get, Some, Ok, Vec, All, take}
use Rattle.std.specs.Borrow.{Bor}
use Rattle.cc_model.specs.Config.{config_fault}
use Rattle.cc_model.specs.declared.config.Config.{Config}
use Rattle.cc_runs.specs.Opening.{IsOpenFault}
use Rattle.cc_runs.specs.declared.fault.OpenFault.{OpenFault}
use Rattle.cc_steps.specs.Topic.{Topic}
use Rattle.std.specs.declared.alloc.Global.{Global}
use Rattle.cc_queue.specs.declared.passes.Sender.{Sender}
use Rattle.cc_queue.specs.declared.passes.Receiver.{Receiver}
use Rattle.cc_queue.specs.Opened as queue
use Rattle.cc_broker.specs.Names.{IsFirstDouble, AreDistinct}
use Rattle.cc_broker.specs.Topics.{names, queues, settings, asked_names, asked_settings}
use Rattle.cc_broker.specs.declared.broker.BrokerFault.{BrokerFault}
use Rattle.cc_broker.specs.declared.broker.OpenedBroker.{OpenedBroker}

-- the passes of a topic
abbrev pub Senders : Type 0
Senders = Vec Sender Global

abbrev pub Receivers : Type 0
Receivers = Vec Receiver Global

-- these are all the passes of this queue, and none has begun a call or seen anything
abbrev pub AreItsPasses : Topic → Senders × Receivers → Type 0
AreItsPasses z p = queue.HasOpened z.setting.config record { queue = z; senders = p.0; receivers = p.1 }

-- and these are those of these queues, in order
abbrev pub AreTheirPasses : List Topic → List (Senders × Receivers) → Type 0
AreTheirPasses [] [] = Unit {0}
AreTheirPasses (z ∷ zs) (p ∷ ps) = AreItsPasses z p × AreTheirPasses zs ps
AreTheirPasses _ _ = ⊥

-- The names were few enough and distinct, and each configuration was legal. The topics have these names, in order; each
-- has a queue of its configuration, and the passes are those of these queues.
pub record HasOpened (asked : List (Bor (List ℕ) × Config)) (o : OpenedBroker) : Type 0 where
  pub few : length asked ≤ 64
  pub distinct : AreDistinct (asked_names asked)
  pub valid : All (λ a. config_fault a.1 ≡ Ok tt) asked
  pub names_are : names o.broker ≡ asked_names asked
  pub settings_are : settings o.broker ≡ asked_settings asked
  pub passes : AreTheirPasses (queues o.broker) o.passes.items

-- the topic at this place is the first that wasn't opened, for this fault
pub record IsTopicFault (asked : List (Bor (List ℕ) × Config)) (place : ℕ) (cause : OpenFault) : Type 0 where
  pub topic : Bor (List ℕ) × Config
  pub there : slice_get asked place ≡ Some topic
  pub fault : IsOpenFault topic.1 cause
  pub valid : All (λ a. config_fault a.1 ≡ Ok tt) (take place asked)

-- the topics up to this place can be opened: their configurations are legal
pub record CanOpenUpTo (asked : List (Bor (List ℕ) × Config)) (place : ℕ) : Type 0 where
  pub within : place < length asked
  pub valid : All (λ a. config_fault a.1 ≡ Ok tt) (take (place + 1) asked)

-- Too many topics are refused first, then a double name, and then the topics are opened in order. Other memory than for
-- an opening is asked for only after the opening of a topic.
abbrev pub IsBrokerFault : List (Bor (List ℕ) × Config) → BrokerFault → Type 0
IsBrokerFault asked BrokerFault.TooMany = 64 < length asked
IsBrokerFault asked (BrokerFault.DoubleName place) = (length asked ≤ 64) × IsFirstDouble (asked_names asked) place
IsBrokerFault asked (BrokerFault.Topic place cause) = (length asked ≤ 64) × AreDistinct (asked_names asked) × IsTopicFault asked place cause
IsBrokerFault asked BrokerFault.NoMemory = (length asked ≤ 64) × AreDistinct (asked_names asked) × (place : ℕ) × CanOpenUpTo asked place
