-- Sweeps over the sorted calls of a log, and their findings.
use Rattle.std.specs.Prelude.{◌≡◌, ℕ, suc, ◌<◌, ◌≤◌, ◌⊎◌, Bool, true, false, List, length, Option, Some, None, IsSome, slice_get}
use Rattle.std.specs.List.Sorted.{IsNonDecreasingBy}
use Rattle.cc_judge.specs.Names.{Act, Call, Rules, Lists, Passed, Reach, Shut, Spell, Stay}
use Rattle.cc_judge.specs.Order.{EndsBefore}
use Rattle.cc_judge.specs.Faults.{Did, FindsNone, WasClosed, WasOpen}
use Rattle.cc_judge.specs.Counts.{SentBy, IsLeftBy, WaitsBy, MoreLeft, AreEnough, IsInside, HasTimes, Upto}
use Rattle.cc_judge.specs.Faultless.{IsWritten}

-- ---- when the queue was closed

-- the call at this place ended at this time
abbrev pub EndsAt : List Call → (place time : ℕ) → Type 0
EndsAt calls place time = (one : Call) × (slice_get calls place ≡ Some one) × (one.end ≡ Some time)

-- closes are judged, and this call shows that the queue is closed; of such calls it ended first
pub record IsShut (rules : Rules) (calls : List Call) (s : Shut) : Type 0 where
  pub judged : rules.closes ≡ true
  pub was_closed : WasClosed calls s.call
  pub ends : EndsAt calls s.call s.time
  pub first : (call time : ℕ) → WasClosed calls call → EndsAt calls call time → s.time ≤ time

-- no call shows that the queue is closed, or closes aren't judged
abbrev pub IsOpen : Rules → List Call → Type 0
IsOpen rules calls = rules.closes ≡ true → (call : ℕ) → WasClosed calls call → ⊥

abbrev pub IsShutAt : Rules → List Call → Option Shut → Type 0
IsShutAt rules calls None = IsOpen rules calls
IsShutAt rules calls (Some s) = IsShut rules calls s

-- of two such calls the one that ended first
abbrev pub IsSooner : Option Shut → Shut → Shut → Type 0
IsSooner None other s = s ≡ other
IsSooner (Some one) other s = ((s ≡ one) × (one.time ≤ other.time)) ⊎ ((s ≡ other) × (other.time ≤ one.time))

-- the earlier of a time and the time at which the queue was closed
abbrev pub IsDone : (end : ℕ) → Option Shut → ℕ → Type 0
IsDone end None time = time ≡ end
IsDone end (Some s) time = ((time ≡ end) × (end ≤ s.time)) ⊎ ((time ≡ s.time) × (s.time ≤ end))

abbrev pub IsDoneBy : (end : Option ℕ) → Option Shut → Option ℕ → Type 0
IsDoneBy None None time = time ≡ None
IsDoneBy None (Some s) time = time ≡ Some s.time
IsDoneBy (Some end) shut None = ⊥
IsDoneBy (Some end) shut (Some time) = IsDone end shut time

-- ---- lists

-- the item that was sent and taken by these calls was in the queue for certain between these times
pub record IsSpell (rules : Rules) (calls : List Call) (s : Spell) : Type 0 where
  pub item : ℕ
  pub sent : Did calls s.send (Act.Send item)
  pub took : Did calls s.take (Act.Took item)
  pub begins : took.call.begin ≡ s.until
  pub after : (time : ℕ) → s.from < time → SentBy rules calls s.send item time
  pub by : (other time : ℕ) → SentBy rules calls s.send other time → s.from < time
  pub only : (other take : ℕ) (t : Did calls take (Act.Took other)) → Did calls s.send (Act.Send other) → t.call.begin ≡ s.until

-- the spell of these calls, if the send was done
abbrev pub IsSpellOf : List Call → (done : Option ℕ) → (send take : ℕ) → Option Spell → Type 0
IsSpellOf calls done send take None = (done ≡ None) ⊎ (slice_get calls take ≡ None)
IsSpellOf calls done send take (Some s) = (one : Call) × (done ≡ Some s.from) × (slice_get calls take ≡ Some one) × (s.until ≡ one.begin) × (s.send ≡ send) × (s.take ≡ take)

-- the item of the send at this place was in the queue between the times of the spell; or it was never taken, or never sent for certain
abbrev pub SpellAt : Rules → List Call → (send : ℕ) → Option Spell → Type 0
SpellAt rules calls send None = (item take time : ℕ) → SentBy rules calls send item time → Did calls take (Act.Took item) → ⊥
SpellAt rules calls send (Some s) = (s.send ≡ send) × IsSpell rules calls s

-- the list has the items that were taken
pub record AreSpells (rules : Rules) (calls : List Call) (spells : List Spell) : Type 0 where
  pub each : (k : ℕ) (s : Spell) → slice_get spells k ≡ Some s → IsSpell rules calls s
  pub all : (send take item time : ℕ) → SentBy rules calls send item time → Did calls take (Act.Took item) → (k : ℕ) × (s : Spell) × (slice_get spells k ≡ Some s) × (s.send ≡ send)
  pub sorted : IsNonDecreasingBy (λ (s : Spell). s.from) spells

-- of two items the one that was taken later
pub record IsLater (best : Option Spell) (other s : Spell) : Type 0 where
  pub one : (s ≡ other) ⊎ (best ≡ Some s)
  pub most : other.until ≤ s.until
  pub best_too : (b : Spell) → best ≡ Some b → b.until ≤ s.until

-- each is one of those up to it, and was taken last of them
pub record AreLatest (spells latest : List Spell) : Type 0 where
  pub as_many : length latest ≡ length spells
  pub each : (k : ℕ) (s : Spell) → slice_get latest k ≡ Some s → (j : ℕ) × (j ≤ k) × (slice_get spells j ≡ Some s)
  pub most : (j k : ℕ) (s t : Spell) → j ≤ k → slice_get latest k ≡ Some s → slice_get spells j ≡ Some t → t.until ≤ s.until

pub record AreLists (rules : Rules) (calls : List Call) (lists : Lists) : Type 0 where
  pub written : IsWritten calls
  pub lefts : HasTimes (IsLeftBy rules calls) lists.lefts.items
  pub waits : HasTimes (Upto (WaitsBy calls)) lists.waits.items
  pub spells : AreSpells rules calls lists.spells.items
  pub latest : AreLatest lists.spells.items lists.latest.items

-- the last of the first ones of a list
abbrev pub IsLatestIn : List Spell → (number : ℕ) → Option Spell → Type 0
IsLatestIn latest number None = (number ≡ 0) ⊎ (length latest < number)
IsLatestIn latest number (Some s) = (k : ℕ) × (suc k ≡ number) × (slice_get latest k ≡ Some s)

-- of the items that were sent before a time this one was taken last
pub record IsLast (rules : Rules) (calls : List Call) (time : ℕ) (s : Spell) : Type 0 where
  pub spell : IsSpell rules calls s
  pub before : s.from < time
  pub last : (send take item : ℕ) → SentBy rules calls send item time → (t : Did calls take (Act.Took item)) → t.call.begin ≤ s.until

abbrev pub IsLatest : Rules → List Call → (time : ℕ) → Option Spell → Type 0
IsLatest rules calls time None = (send take item : ℕ) → SentBy rules calls send item time → Did calls take (Act.Took item) → ⊥
IsLatest rules calls time (Some s) = IsLast rules calls time s

abbrev pub AreEnoughIf : Rules → List Call → (sent began : ℕ) → Bool → Type 0
AreEnoughIf rules calls sent began true = AreEnough rules calls sent began
AreEnoughIf rules calls sent began false = MoreLeft rules calls sent began

-- ---- takes that found none

-- no item that was taken is in the queue for certain: each that was sent before the one time was taken by a call that began by the other
abbrev pub AreTaken : Rules → List Call → (sent began : ℕ) → Type 0
AreTaken rules calls sent began = (send take item : ℕ) → SentBy rules calls send item sent → (t : Did calls take (Act.Took item)) → t.call.begin ≤ began

-- more are left than takes may have, until this time
abbrev pub LeftsReach : Rules → List Call → (time : ℕ) → Reach → Type 0
LeftsReach rules calls time Reach.Free = AreEnough rules calls time time
LeftsReach rules calls time (Reach.Until next) = (later : ℕ) → time ≤ later → later < next → MoreLeft rules calls later later
LeftsReach rules calls time Reach.Forever = (later : ℕ) → time ≤ later → MoreLeft rules calls later later

-- an item is in the queue for certain, until this time
abbrev pub Reaches : Rules → List Call → (time : ℕ) → Reach → Type 0
Reaches rules calls time Reach.Free = AreTaken rules calls time time × AreEnough rules calls time time
Reaches rules calls time (Reach.Until next) = (later : ℕ) → time ≤ later → later < next → IsInside rules calls later later
Reaches rules calls time Reach.Forever = (later : ℕ) → time ≤ later → IsInside rules calls later later

abbrev pub MovesOn : (time : ℕ) → Reach → Type 0
MovesOn time (Reach.Until next) = time < next
MovesOn time _ = Unit {0}

-- at a time between these no item is in the queue for certain; or at each of them one is
abbrev pub EmptyAt : Rules → List Call → (begin end : ℕ) → Option ℕ → Type 0
EmptyAt rules calls begin end None = (time : ℕ) → begin ≤ time → time ≤ end → IsInside rules calls time time
EmptyAt rules calls begin end (Some time) = (begin ≤ time) × (time ≤ end) × AreTaken rules calls time time × AreEnough rules calls time time

abbrev pub HasEndedIf : Rules → List Call → (end : ℕ) → Bool → Type 0
HasEndedIf rules calls end true = AreTaken rules calls (suc end) end × AreEnough rules calls (suc end) end
HasEndedIf rules calls end false = IsInside rules calls (suc end) end

-- ---- the faults of a log

-- a call ends no earlier than it begins; a take of which no item is known hasn't returned, and one of which more is known has
pub record IsWrittenCall (c : Call) : Type 0 where
  pub timed : (e : ℕ) → c.end ≡ Some e → c.begin ≤ e
  pub waits : c.act ≡ Act.Taking → c.end ≡ None
  pub took : (item : ℕ) → c.act ≡ Act.Took item → IsSome c.end
  pub ended : c.act ≡ Act.Ended → IsSome c.end

-- a call sent the item, and the take of it hadn't ended before that began
abbrev pub WasSent : List Call → (take item : ℕ) → Type 0
WasSent calls take item = (send : ℕ) × Did calls send (Act.Send item) × (EndsBefore calls take send → ⊥)

-- a close began before a call showed the queue closed, and no send that began after that found it open
pub record KeepsClosed (rules : Rules) (calls : List Call) : Type 0 where
  pub still_open : rules.closes ≡ true → (closed send : ℕ) → WasClosed calls closed → WasOpen calls send → EndsBefore calls closed send → ⊥
  pub closed : rules.closes ≡ true → (call : ℕ) → WasClosed calls call → (close : ℕ) × Did calls close Act.Close × (EndsBefore calls call close → ⊥)

-- one item was sent and taken by these calls, of which the send began then and the take ended then
pub record IsPair (calls : List Call) (send take begin end : ℕ) : Type 0 where
  pub item : ℕ
  pub sent : Did calls send (Act.Send item)
  pub took : Did calls take (Act.Took item)
  pub begins : sent.call.begin ≡ begin
  pub ends : took.call.end ≡ Some end

-- no item that was sent before the one time need be in the queue after the other
abbrev pub KeepsTurn : Rules → List Call → (begin end : ℕ) → Type 0
KeepsTurn rules calls begin end = AreTaken rules calls begin end × AreEnough rules calls begin end

-- the item was sent before the one time and taken after the other; of all such items it was sent last
pub record IsPassedLast (rules : Rules) (calls : List Call) (lists : Lists) (begin end : ℕ) (s : Spell) : Type 0 where
  pub spell : IsSpell rules calls s
  pub before : s.from < begin
  pub later : end < s.until
  pub last : (k : ℕ) (t : Spell) → slice_get lists.spells.items k ≡ Some t → t.from < begin → end < t.until → t.from ≤ s.from

-- the item that an item overtook which was sent and taken at these times, or that it overtook none
abbrev pub IsPassed : Rules → List Call → Lists → (begin end : ℕ) → Passed → Type 0
IsPassed rules calls lists begin end Passed.None = KeepsTurn rules calls begin end
IsPassed rules calls lists begin end (Passed.Taken s) = IsPassedLast rules calls lists begin end s
IsPassed rules calls lists begin end Passed.Left = MoreLeft rules calls begin end

-- the stay is one of items that are left
abbrev pub IsOfLefts : Stay → Type 0
IsOfLefts (Stay.Taken send take closed) = ⊥
IsOfLefts (Stay.Left sends more next closed) = Unit {0}

-- no item was overtaken
abbrev pub KeepTurns : Rules → List Call → Type 0
KeepTurns rules calls = (send take begin end : ℕ) → IsPair calls send take begin end → KeepsTurn rules calls begin end

-- the call at this place found none between these times
pub record IsNone (calls : List Call) (place begin end : ℕ) : Type 0 where
  pub call : Call
  pub call_is : slice_get calls place ≡ Some call
  pub finds_none : FindsNone call.act
  pub begins : call.begin ≡ begin
  pub ends : call.end ≡ Some end

-- at a time of the call at this place, if it found none, the queue may have been empty
abbrev pub HasMoment : Rules → List Call → (place : ℕ) → Type 0
HasMoment rules calls place = (begin end : ℕ) → IsNone calls place begin end → (time : ℕ) × (begin ≤ time) × (time ≤ end) × AreTaken rules calls time time × AreEnough rules calls time time

-- if it found the queue closed and empty, the queue may have been empty when it ended
abbrev pub HasEnd : Rules → List Call → (place : ℕ) → Type 0
HasEnd rules calls place = rules.closes ≡ true → (end : ℕ) (d : Did calls place Act.Ended) → d.call.end ≡ Some end → AreTaken rules calls (suc end) end × AreEnough rules calls (suc end) end

pub record MayBeEmpty (rules : Rules) (calls : List Call) (place : ℕ) : Type 0 where
  pub moment : HasMoment rules calls place
  pub ended : HasEnd rules calls place
