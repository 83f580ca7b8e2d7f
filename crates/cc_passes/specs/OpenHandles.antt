-- The opening of a queue, over two rows of handles.
use Rattle.std.specs.Prelude.{◌≡◌, ℕ, ◌+◌, ◌*◌, Bool, ◌&&◌, nat_eq, if◌then◌else◌, List, [], ◌∷◌, length, Ok, Err}
use Rattle.std.specs.List.{list_all}
use Rattle.std.specs.declared.result.Result.{Result}
use Rattle.cc_model.specs.Config.{config_fault}
use Rattle.cc_passes.specs.Names.{Config, ConfigFault, Served, AnyPass, Settings}
use Rattle.cc_steps.specs.Topic.{Topic}
use Rattle.cc_steps.specs.Walk.{Walk, fresh}
use Rattle.cc_passes.specs.declared.handle.Handle.{Handle}
use Rattle.cc_passes.specs.declared.return_codes.TheConstants.{DONE, BAD_SENDERS, BAD_RECEIVERS, BAD_CAPACITY, BAD_BOUND, BAD_LIFE, BAD_PER_SENDER, BAD_HANDLES, BAD_GROUPS, BAD_WORDS}
use Rattle.cc_passes.specs.Items.{are_few}
use Rattle.cc_passes.specs.Handles.{held_by, is_empty}
use Rattle.cc_passes.specs.Passes.{Holding, holding}

-- the configuration, as C gives it, of this number of groups
abbrev pub config_of : Settings → ℕ → Config
config_of s groups = record { senders = s.senders; receivers = s.receivers; capacity = s.capacity; bound = s.bound; life = s.life; per_sender = s.per_sender; groups = groups }

-- the code of a field that is out of its range
abbrev pub field_code : ConfigFault → ℕ
field_code ConfigFault.Senders = BAD_SENDERS
field_code ConfigFault.Receivers = BAD_RECEIVERS
field_code ConfigFault.Capacity = BAD_CAPACITY
field_code ConfigFault.Bound = BAD_BOUND
field_code ConfigFault.Life = BAD_LIFE
field_code ConfigFault.PerSender = BAD_PER_SENDER
field_code ConfigFault.Groups = BAD_GROUPS

-- there is this number of handles, and each is empty
abbrev pub are_free : ℕ → List Handle → Bool
are_free count hs = nat_eq (length hs) count && list_all is_empty hs

-- why a queue isn't opened, memory apart: the first field out of its range, then the words of a body, then the handles; DONE
-- if nothing is wrong
abbrev pub checked_as : Result (Unit {0}) ConfigFault → Bool → Bool → ℕ
checked_as (Err f) few free = field_code f
checked_as (Ok u) few free = if few then (if free then DONE else BAD_HANDLES) else BAD_WORDS

abbrev pub refusal : Config → ℕ → List Handle → List Handle → ℕ
refusal c words senders receivers = checked_as (config_fault c) (are_few words) (are_free c.senders senders && are_free (c.groups * c.receivers) receivers)

-- these hold, one after another, the passes of this queue of bodies of this many words from p on, each one its own, which has no
-- call and has seen nothing
abbrev pub HoldFresh : {X : Type 0} → List X → (X → Holding) → (Walk → AnyPass) → ℕ → Topic → ℕ → Type 0
HoldFresh [] held side words z p = Unit {0}
HoldFresh (x ∷ xs) held side words z p = (held x ≡ holding words (side (fresh z p))) × HoldFresh xs held side words z (p + 1)

-- the handles are those of the senders and of the receivers of one queue with this configuration, whose bodies have this many
-- words at most, in order, so those of a group are together
pub record HaveOpened (c : Config) (words : ℕ) (senders receivers : List Handle) : Type 0 where
  pub queue : Topic
  pub setting : queue.setting ≡ record { served = Served.List; config = c }
  pub senders_hold : HoldFresh senders held_by AnyPass.Sender words queue 0
  pub receivers_hold : HoldFresh receivers held_by AnyPass.Receiver words queue c.senders
