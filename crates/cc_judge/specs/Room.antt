-- How many items may be in the queue at a time: as many as more sends began by then than takes ended before. How many are for certain.
use Rattle.std.specs.Prelude.{◌≡◌, ℕ, ◌<◌, ◌≤◌, ◌⊎◌, suc, Bool, true, false, List, length, Option, Some, None, slice_get}
use Rattle.cc_judge.specs.Names.{Act, Call, Crowd, Held, Known, Rooms, Rules}
use Rattle.cc_judge.specs.Faults.{BeganBy, Did, Differ, EndedBy, FewerAt, In, MoreAt, NotFull, Once, Returned}
use Rattle.cc_judge.specs.Counts.{HasTimes, IsLeftBy, Upto, WaitsBy}
use Rattle.cc_judge.specs.Faultless.{IsWritten}

-- ---- what is known of a send by a time

-- it had begun
abbrev pub HasBegun : List Call → (time send : ℕ) → Type 0
HasBegun calls time send = (item : ℕ) × Did calls send (Act.Send item) × BeganBy calls send time

-- this call took the item, or none did
abbrev pub IsTakeOf : List Call → (item : ℕ) → Option Call → Type 0
IsTakeOf calls item None = (take : ℕ) → Did calls take (Act.Took item) → ⊥
IsTakeOf calls item (Some call) = (take : ℕ) × (d : Did calls take (Act.Took item)) × (d.call ≡ call) × ((other : ℕ) → Did calls other (Act.Took item) → other ≡ take)

-- its item had been taken before
abbrev pub WasTaken : List Call → (time send : ℕ) → Type 0
WasTaken calls time send = (item take : ℕ) × Did calls send (Act.Send item) × Returned calls take (Act.Took item) × EndedBy calls take time

-- it had ended before
abbrev pub HasSent : List Call → (time send : ℕ) → Type 0
HasSent calls time send = (item : ℕ) × Did calls send (Act.Send item) × EndedBy calls send time

-- it had ended, and the take of its item had begun
abbrev pub MayBeGone : List Call → (time send : ℕ) → Type 0
MayBeGone calls time send = (item take : ℕ) × Did calls send (Act.Send item) × EndedBy calls send (suc time) × Did calls take (Act.Took item) × BeganBy calls take time

-- each of these, of a call by a time
abbrev pub IsKnown : Rules → List Call → Known → (time place : ℕ) → Type 0
IsKnown rules calls Known.Left = IsLeftBy rules calls
IsKnown rules calls Known.Waits = Upto (WaitsBy calls)
IsKnown rules calls Known.Begun = Upto (HasBegun calls)
IsKnown rules calls Known.Taken = WasTaken calls
IsKnown rules calls Known.Sent = HasSent calls
IsKnown rules calls Known.Gone = Upto (MayBeGone calls)

-- ---- how many items may be in the queue

-- the begins of the sends, and the ends of the takes of their items, of a log whose items differ; no take ended before its send began
pub record AreTimes (calls : List Call) (begins ends : List (ℕ × ℕ)) : Type 0 where
  pub differ : Differ calls
  pub after : (time send : ℕ) → WasTaken calls time send → HasBegun calls time send
  pub begun : HasTimes (Upto (HasBegun calls)) begins
  pub taken : HasTimes (WasTaken calls) ends

-- of the sends before a place of the list this is the last time at which as many items as a number may be in the queue; at the begin of each
-- send after that fewer may
pub record IsLast (calls : List Call) (begins : List (ℕ × ℕ)) (number upto time : ℕ) : Type 0 where
  pub enough : FewerAt calls number time → ⊥
  pub place : ℕ
  pub send : ℕ
  pub place_is : slice_get begins place ≡ Some (time, send)
  pub before : place < upto
  pub later : (k at other : ℕ) → k < upto → slice_get begins k ≡ Some (at, other) → time < at → FewerAt calls number at

abbrev pub IsLastRoom : List Call → (begins : List (ℕ × ℕ)) → (number upto : ℕ) → Option ℕ → Type 0
IsLastRoom calls begins number upto None = (k at send : ℕ) → k < upto → slice_get begins k ≡ Some (at, send) → FewerAt calls number at
IsLastRoom calls begins number upto (Some time) = IsLast calls begins number upto time

-- with each send of the list that time
abbrev pub AreLastRooms : List Call → (begins : List (ℕ × ℕ)) → (number : ℕ) → List (Option ℕ) → Type 0
AreLastRooms calls begins number rooms = (k : ℕ) (o : Option ℕ) → slice_get rooms k ≡ Some o → IsLastRoom calls begins number (suc k) o

-- the element of the last of that many places
abbrev pub IsRoomIn : List (Option ℕ) → (number : ℕ) → Option (Option ℕ) → Type 0
IsRoomIn rooms number None = (number ≡ 0) ⊎ (length rooms < number)
IsRoomIn rooms number (Some last) = (k : ℕ) × (suc k ≡ number) × (slice_get rooms k ≡ Some last)

-- what is known of a log's times, with the last of them at which as many items as a number may be in the queue
pub record AreRooms (calls : List Call) (r : Rooms) : Type 0 where
  pub times : AreTimes calls r.begins.items r.ends.items
  pub last : AreLastRooms calls r.begins.items r.number r.last.items
  pub long : length r.last.items ≡ length r.begins.items

-- at each time between these at which that number changes, fewer items than a number may be in the queue
pub record FewerIn (calls : List Call) (number begin end : ℕ) : Type 0 where
  pub at_begin : FewerAt calls number begin
  pub at_sends : (send item : ℕ) (one : Call) → slice_get calls send ≡ Some one → one.act ≡ Act.Send item → begin ≤ one.begin → one.begin ≤ end → FewerAt calls number one.begin

-- no call found the queue full that can't have
abbrev pub FullsArePossible : Rules → List Call → Type 0
FullsArePossible rules calls = (call : ℕ) → NotFull rules calls call → ⊥

-- ---- how many items are in the queue for certain

-- these are the places of which it holds
pub record AreAll (P : ℕ → Type 0) (places : List ℕ) : Type 0 where
  pub once : Once places
  pub each : (place : ℕ) → In place places → P place
  pub all : (place : ℕ) → P place → In place places

-- the send had ended at a time, and its item was taken only after that; or, if `left`, by no call
pub record Remains (calls : List Call) (time : ℕ) (left : Bool) (send : ℕ) : Type 0 where
  pub sent : HasSent calls (suc time) send
  pub there : MayBeGone calls time send → ⊥
  pub counts : (left ≡ true) ⊎ ((later : ℕ) × MayBeGone calls later send)

abbrev pub RemainsIf : List Call → (time : ℕ) → (left : Bool) → (send : ℕ) → Bool → Type 0
RemainsIf calls time left send true = Remains calls time left send
RemainsIf calls time left send false = Remains calls time left send → ⊥

-- the calls of a well-formed log by these times, whatever closes it
pub record AreHeld (rules : Rules) (calls : List Call) (h : Held) : Type 0 where
  pub opened : rules.closes ≡ false
  pub written : IsWritten calls
  pub differ : Differ calls
  pub once : (item t u : ℕ) → Did calls t (Act.Took item) → Did calls u (Act.Took item) → t ≡ u
  pub taken : (item : ℕ) → ((take : ℕ) × Did calls take (Act.Took item)) ⊎ ((take : ℕ) → Did calls take (Act.Took item) → ⊥)
  pub sent : HasTimes (HasSent calls) h.sent.items
  pub gone : HasTimes (Upto (MayBeGone calls)) h.gone.items
  pub left : HasTimes (IsLeftBy rules calls) h.left.items
  pub waits : HasTimes (Upto (WaitsBy calls)) h.waits.items

-- at the end of this send more items were in the queue for certain than a number
pub record IsCrowd (h : Held) (number : ℕ) (c : Crowd) : Type 0 where
  pub at : ℕ
  pub at_is : slice_get h.sent.items at ≡ Some (c.time, c.call)
  pub more : (rules : Rules) (calls : List Call) → AreHeld rules calls h → (sends : List ℕ) → AreAll (Remains calls c.time c.left) sends → MoreAt calls sends number c.time

-- at no time are more items in the queue for certain than it holds
abbrev pub ItemsFit : Rules → List Call → Type 0
ItemsFit rules calls = (number time : ℕ) (sends : List ℕ) → rules.capacity ≡ Some number → MoreAt calls sends number time → ⊥

-- each call that found the queue full may have, by itself; and at each time the items fit
abbrev pub KeepsRoom : Rules → List Call → Type 0
KeepsRoom rules calls = FullsArePossible rules calls × ItemsFit rules calls
