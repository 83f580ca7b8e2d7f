-- A part of a call, as its seat sees it: the phase that its pass has come to, and the steps that it did.
use Rattle.std.specs.Prelude.{◌≡◌, ℕ, ◌≤◌, ◌+◌, ◌%◌, ◌==◌, if◌then◌else◌, ◌*◌, List, [], ◌∷◌, ◌++◌, None}
use Rattle.cc_queue.specs.Names.{Answer, Call, Config, Served, Chain, Job, Kind, Parcel, Phase, SendAnswer, Sending, Stand}
use Rattle.cc_runs.specs.State.{chain_of}
use Rattle.cc_steps.specs.Seen.{Onward}
use Rattle.cc_steps.specs.Topic.{Topic}
use Rattle.cc_steps.specs.Walk.{Walk, IsOf, IsSameSeat, Found}
use Rattle.cc_queue.specs.Headline.{entry_of}

-- the pass is on this chain
abbrev pub IsOn : Walk → Chain → Type 0
IsOn w x = chain_of w.setting.config w.number ≡ x

-- the pass of this seat is on this chain of a list, whose words these are
pub record IsOnList (z : Topic) (x : Chain) (w : Walk) : Type 0 where
  pub here : IsOf z w
  pub list : w.setting.served ≡ Served.List
  pub chain : IsOn w x

-- the pass of this seat can do a turn: it is on this chain of a list, and reads the state of this node next
pub record CanTurn (z : Topic) (x : Chain) (n : ℕ) (w : Walk) : Type 0 where
  pub here : IsOnList z x w
  pub at : w.stand ≡ record { begun = w.stand.begun; node = n; phase = Phase.ReadState }

-- how often it did such steps
abbrev pub tally : (Kind → ℕ) → List Kind → ℕ
tally f [] = 0
tally f (k ∷ ks) = f k + tally f ks

-- it read a state
abbrev pub reads : Kind → ℕ
reads Kind.ReadState = 1
reads _ = 0

-- it marked a request as done
abbrev pub marks : Kind → ℕ
marks Kind.MarkDone = 1
marks _ = 0

-- it handed over
abbrev pub hands : Kind → ℕ
hands Kind.HandOver = 1
hands _ = 0

-- it read whether a list node is free
abbrev pub scans : Kind → ℕ
scans Kind.ReadPassed = 1
scans _ = 0

-- the pass has gone on in its call to this phase, and has seen and done more
abbrev pub worked_to : Walk → Phase → Walk → Walk
worked_to v at w = record v { seen = w.seen; did = w.did; stand = record v.stand { phase = at } }

-- the phase of a combiner at the end of a round
abbrev pub round_phase : ℕ → ℕ → ℕ → Phase
round_phase bound at served = if served == bound then Phase.HandOver at else Phase.ReadNext record { at = at; served = served }

-- the phase of the senders' combiner that has found this number of list nodes in use: unless these are all, it looks at this one next,
-- counted on round the end
abbrev pub scan_phase : Config → Job → Parcel → (node looked : ℕ) → Phase
scan_phase c job parcel node looked =
    if looked == c.capacity + 1 then Phase.WriteAnswer job (Answer.Send SendAnswer.Full)
    else Phase.Sending job (Sending.ReadPassed parcel (node % (c.capacity + 1)) (looked + 1))

-- Of the steps that are counted: how many states a pass read, requests it marked, hand-overs it made, and at most how often it
-- looked whether a list node is free.
pub record Tally : Type 0 where
  pub reads : ℕ
  pub marks : ℕ
  pub hands : ℕ
  pub scans : ℕ

-- it looked so often at most, and did nothing else that is counted
abbrev pub looked : ℕ → Tally
looked most = record { reads = 0; marks = 0; hands = 0; scans = most }

-- a combiner served this many requests: it marked each, looked at each list node once at most for each, and handed over this often
abbrev pub combined : Config → (served hands : ℕ) → Tally
combined c served hands = record { reads = 0; marks = served; hands = hands; scans = served * (c.capacity + 1) }

-- a turn reads the state once, and hands over if it served any
abbrev pub turned : Config → (served : ℕ) → Tally
turned c served = record { reads = 1; marks = served; hands = if served == 0 then 0 else 1; scans = served * (c.capacity + 1) }

-- Within its call the pass has gone on to this phase, and did so much on the way.
pub record Works (v : Walk) (at : Phase) (done : Tally) (w : Walk) : Type 0 where
  pub worked : w ≡ worked_to v at w
  pub reads : tally reads w.did ≡ done.reads + tally reads v.did
  pub marks : tally marks w.did ≡ done.marks + tally marks v.did
  pub hands : tally hands w.did ≡ done.hands + tally hands v.did
  pub scans : tally scans w.did ≤ done.scans + tally scans v.did
  pub later : Onward v.seen w.seen

-- the same within the service of one request
abbrev pub Serves : Walk → Phase → (most : ℕ) → Walk → Type 0
Serves v at most w = Works v at (looked most) w

-- the same within a turn, which has served this number of requests
pub record Turns (v : Walk) (at : Phase) (served : ℕ) (w : Walk) : Type 0 where
  pub works : Works v at (turned v.setting.config served) w
  pub few : served ≤ v.setting.config.bound

-- the pass read its state once, which says that its call waits
pub record Waits (v w : Walk) : Type 0 where
  pub found : Found v None 1 w
  pub worked : w ≡ worked_to v Phase.ReadState w
  pub did : w.did ≡ Kind.ReadState ∷ v.did
  pub later : Onward v.seen w.seen

-- the pass began this call, by which it came to this phase, and neither read a state nor marked a request
pub record Enters (v : Walk) (call : Call) (at : Stand) (w : Walk) : Type 0 where
  pub same : IsSameSeat v w
  pub stand : w.stand ≡ at
  pub made : w.made ≡ v.made ++ entry_of v call ∷ []
  pub reads : tally reads w.did ≡ tally reads v.did
  pub marks : tally marks w.did ≡ tally marks v.did
  pub later : Onward v.seen w.seen
