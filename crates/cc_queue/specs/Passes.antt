-- The facts of every pass, idle or with a pending call.
use Rattle.std.specs.Arc.{arc_value}
use Rattle.std.specs.Prelude.{◌≡◌, ◌<◌, ◌≤◌, Bool, true, false, List, [], ◌∷◌, ◌++◌, Ok}
use Rattle.cc_model.specs.Config.{config_fault}
use Rattle.cc_queue.specs.Names.{Config, Call, Entry, Pass, Served, Chain, Phase, SenderCall, SenderSeat, ReceiverSeat, Turn}
use Rattle.cc_steps.specs.Topic.{Topic}
use Rattle.cc_steps.specs.Walk.{Walk, IsOf}
use Rattle.cc_queue.specs.Work.{IsOn}
use Rattle.cc_queue.specs.Headline.{name}

-- the words of a queue are those of a list with this configuration, which was checked
pub record KeepsQueue (z : Topic) (c : Config) : Type 0 where
  pub list : z.setting ≡ record { served = Served.List; config = c }
  pub checked : config_fault c ≡ Ok tt

-- This is the sender of this seat. The seat is one of its queue's words.
pub record KeepsSender (s : SenderSeat) (at : Phase) : Type 0 where
  pub here : IsOf (arc_value s.words) s.seat
  pub list : s.seat.setting.served ≡ Served.List
  pub chain : IsOn s.seat Chain.Send
  pub stand : s.seat.stand ≡ record { begun = s.begun; node = s.node; phase = at }
  pub limit_is : s.limit ≡ s.seat.setting.config.per_sender
  pub few : s.begun ≤ s.limit
  pub named : name s.seat ≡ Pass.Sender s.number
  pub low : 1 ≤ s.number
  pub high : s.number ≤ 64

-- This is the receiver of this seat.
pub record KeepsReceiver (r : ReceiverSeat) (at : Phase) : Type 0 where
  pub here : IsOf (arc_value r.words) r.seat
  pub list : r.seat.setting.served ≡ Served.List
  pub chain : IsOn r.seat (Chain.Take r.group)
  pub few : r.group < 8
  pub stand : r.seat.stand ≡ record { begun = 0; node = r.node; phase = at }
  pub named : name r.seat ≡ Pass.Receiver r.number

-- a pass can be abandoned if it has no call, and if its call waits
abbrev pub IsStill : Phase → Type 0
IsStill Phase.Idle = Unit {0}
IsStill Phase.ReadState = Unit {0}
IsStill _ = ⊥

-- a pass of a list that is so
pub record HasStopped (w : Walk) : Type 0 where
  pub list : w.setting.served ≡ Served.List
  pub still : IsStill w.stand.phase

-- a pass that was given up, by its name
pub record KeepsGivenUp (w : Walk) (p : Pass) : Type 0 where
  pub stopped : HasStopped w
  pub named : name w ≡ p

-- which calls are sends, and which are closes
abbrev pub IsSend : Call → Type 0
IsSend (Call.Send body) = Unit {0}
IsSend _ = ⊥

abbrev pub IsClose : Call → Type 0
IsClose Call.Close = Unit {0}
IsClose _ = ⊥

-- the last call that a pass made is such a one
pub record MadeLast (Is : Call → Type 0) (made : List Entry) : Type 0 where
  pub before : List Entry
  pub entry : Entry
  pub last : made ≡ before ++ entry ∷ []
  pub is : Is entry.call

-- the sender of this seat waits in a call, and that is such a one
abbrev pub IsCalling : (Call → Type 0) → SenderSeat → Type 0
IsCalling Is s = KeepsSender s Phase.ReadState × MadeLast Is s.seat.made

-- after a turn of such a call the sender of this seat still waits in it, or has none
abbrev pub KeepsAfter : {C P A : Type 0} → (Call → Type 0) → Turn C P A → SenderSeat → Type 0
KeepsAfter Is (Turn.Waiting same) s = IsCalling Is s
KeepsAfter Is (Turn.Done back answer served) s = KeepsSender s Phase.Idle

-- the phase of a receiver after a turn of its take
abbrev pub phase_after : {C P A : Type 0} → Turn C P A → Phase
phase_after (Turn.Waiting same) = Phase.ReadState
phase_after (Turn.Done back answer served) = Phase.Idle

-- the sender of this seat has this call
abbrev pub HasCall : SenderCall → SenderSeat → Type 0
HasCall SenderCall.None s = KeepsSender s Phase.Idle
HasCall SenderCall.Send s = IsCalling IsSend s
HasCall SenderCall.Close s = IsCalling IsClose s

-- the receiver of this seat has a take, or none
abbrev pub HasTake : Bool → ReceiverSeat → Type 0
HasTake true r = KeepsReceiver r Phase.ReadState
HasTake false r = KeepsReceiver r Phase.Idle
