-- The verdict on a log.
use Rattle.std.specs.Prelude.{◌≡◌, ℕ, ◌+◌, ◌<◌, ◌≤◌, ◌⊎◌, List, [], length, Some, slice_get}
use Rattle.cc_judge.specs.Names.{Act, Call, Rules, Fault, Stay, Verdict, Indexed}
use Rattle.cc_judge.specs.Order.{IsLinearizable, of_any_capacity}
use Rattle.cc_judge.specs.Faults.{Did, Differ, Passed, NeverSent, TakenBeforeSent, TakenTwice, Reopened, ClosedEarly, NotFull, TooMany}
use Rattle.cc_judge.specs.Counts.{TookOver, LeftBehind, NeverEmpty, EndedWithItems}
use Rattle.cc_judge.specs.Faultless.{IsWritten}
use Rattle.cc_judge.specs.Cuts.{AreWithoutTies, MayBeCut, IsCut}
use Rattle.cc_judge.specs.Splits.{AllTouch, HaveRoom, IsTimed, spend}
use Rattle.cc_judge.specs.Room.{KeepsRoom}
use Rattle.cc_judge.specs.Table.{IsIndex}
use Rattle.cc_judge.specs.Until.{IsUntil}

-- no call took the item that the call at this place sent
pub record IsUntaken (calls : List Call) (send : ℕ) : Type 0 where
  pub item : ℕ
  pub sent : Did calls send (Act.Send item)
  pub untaken : (take : ℕ) → Did calls take (Act.Took item) → ⊥

abbrev pub AreUntaken : List Call → (sends : List ℕ) → Type 0
AreUntaken calls sends = (k send : ℕ) → slice_get sends k ≡ Some send → IsUntaken calls send

-- the stay is one of the log: its item was sent and taken by these calls, or no call took the items of these sends
abbrev pub IsStay : List Call → Stay → Type 0
IsStay calls (Stay.Taken send take closed) = Passed calls send take
IsStay calls (Stay.Left sends more next closed) = AreUntaken calls sends.items

abbrev pub AreStays : List Call → List Stay → Type 0
AreStays calls stays = (k : ℕ) (s : Stay) → slice_get stays k ≡ Some s → IsStay calls s

-- an item was taken, though one that was sent before it was taken later, or is left
abbrev pub IsOvertaken : Rules → List Call → Stay → (later_send later_take : ℕ) → Type 0
IsOvertaken rules calls (Stay.Taken send take closed) later_send later_take = TookOver calls send take later_send later_take
IsOvertaken rules calls (Stay.Left sends more next closed) later_send later_take = LeftBehind rules calls later_send later_take × AreUntaken calls sends.items

-- a take found none, though at each of its times an item was in the queue; or found the queue closed, though one was when it ended
abbrev pub IsNotEmpty : Rules → List Call → (call : ℕ) → Type 0
IsNotEmpty rules calls call = NeverEmpty rules calls call ⊎ EndedWithItems rules calls call

-- The log has the fault: the calls that it names did so. Of the stays of a take that found none, nothing is asked but that each is one of
-- the log.
abbrev pub Stands : Rules → List Call → Fault → Type 0
Stands rules calls (Fault.NeverSent take) = NeverSent calls take
Stands rules calls (Fault.TakenBeforeSent send take) = TakenBeforeSent calls send take
Stands rules calls (Fault.TakenTwice first second) = TakenTwice calls first second
Stands rules calls (Fault.Overtaken stay later_send later_take) = IsOvertaken rules calls stay later_send later_take
Stands rules calls (Fault.NotEmpty call stays) = IsNotEmpty rules calls call × AreStays calls stays.items
Stands rules calls (Fault.Reopened closed send) = Reopened rules calls closed send
Stands rules calls (Fault.ClosedEarly call) = ClosedEarly rules calls call
Stands rules calls (Fault.NotFull call) = NotFull rules calls call
Stands rules calls (Fault.TooMany call sends) = TooMany rules calls call sends.items
Stands rules calls Fault.NoOrder = IsLinearizable rules calls → ⊥

-- The log has the fault until a time. Until no earlier time has it a fault: it has a legal order, of a queue of whatever capacity, if no
-- calls are ordered only by their lines.
pub record StandsFirst (rules : Rules) (calls : List Call) (fault : Fault) : Type 0 where
  pub time : ℕ
  pub part : List Call
  pub part_is : IsUntil time calls part
  pub stands : Stands rules part fault
  pub first : rules.ties.items ≡ [] → (earlier : ℕ) → earlier < time → (early : List Call) → IsUntil earlier calls early → IsLinearizable (of_any_capacity rules) early

-- the log has the fault, or the log has it that is cut between the calls that only their lines order
pub record StandsInCut (rules : Rules) (calls : List Call) (fault : Fault) : Type 0 where
  pub plain : Rules
  pub same : AreWithoutTies rules plain
  pub cut : List Call
  pub may : MayBeCut calls rules.ties.items
  pub cut_is : IsCut rules.ties.items calls cut
  pub stands : StandsFirst plain cut fault

-- the queue keeps its room in the log that is cut
pub record KeepsRoomInCut (rules : Rules) (calls : List Call) : Type 0 where
  pub plain : Rules
  pub same : AreWithoutTies rules plain
  pub cut : List Call
  pub timed : IsTimed rules.ties.items calls cut
  pub keeps : KeepsRoom plain cut

-- the items fit the capacity, in the log or in the log that is cut
abbrev pub FitsCapacity : Rules → List Call → Type 0
FitsCapacity rules calls = KeepsRoom rules calls ⊎ KeepsRoomInCut rules calls

-- The verdict is right: a clean log has a legal order, of a queue of whatever capacity, each of its full answers is possible by itself,
-- and at no time are more items in the queue for certain than it holds; one with a fault has the fault, which shows before any other,
-- and no legal order.
abbrev pub IsVerdict : Rules → List Call → Verdict → Type 0
IsVerdict rules calls Verdict.Clean = IsLinearizable (of_any_capacity rules) calls × FitsCapacity rules calls
IsVerdict rules calls (Verdict.Fault fault) = (StandsFirst rules calls fault ⊎ StandsInCut rules calls fault) × (IsLinearizable rules calls → ⊥)
IsVerdict rules calls (Verdict.Undecided tie) = Unit {0}

abbrev pub IsUndecided : Verdict → Type 0
IsUndecided (Verdict.Undecided tie) = Unit {0}
IsUndecided _ = ⊥

-- the items of a log are below a number
pub record AreBelow (calls : List Call) (items : ℕ) : Type 0 where
  pub sent : (place item : ℕ) → Did calls place (Act.Send item) → item < items
  pub took : (place item : ℕ) → Did calls place (Act.Took item) → item < items

-- Each cut of the log can be tried: its ties are of calls that meet or overlap, and in all logs that are cut so are no more than 2^20
-- calls.
pub record IsSmall (rules : Rules) (calls : List Call) : Type 0 where
  pub touch : AllTouch calls rules.ties.items
  pub room : HaveRoom (length rules.ties.items) calls
  pub few : length calls + spend (length calls) (length rules.ties.items) ≤ 1048576

-- times order the calls of the log, or do so once the log is cut
abbrev pub AreOrdered : Rules → List Call → Type 0
AreOrdered rules calls = (rules.ties.items ≡ []) ⊎ MayBeCut calls rules.ties.items

-- The verdict decides a well-formed log whose items differ and are below a number, if no calls are ordered only by their lines, or at
-- most two that meet at a time, or the log is small.
abbrev pub IsDecided : Rules → List Call → (items : ℕ) → Verdict → Type 0
IsDecided rules calls items verdict = IsUndecided verdict → AreOrdered rules calls ⊎ IsSmall rules calls → Differ calls → AreBelow calls items → IsWritten calls → ⊥

-- the items that were sent are below a number
abbrev pub AreSentBelow : List Call → (items : ℕ) → Type 0
AreSentBelow calls items = (place item : ℕ) → Did calls place (Act.Send item) → item < items

-- an index of the log, or its fault
abbrev pub Indexes : List Call → Indexed → Type 0
Indexes calls (Indexed.Index index) = IsIndex calls index
Indexes calls (Indexed.Fault fault) = (rules : Rules) → Stands rules calls fault

-- the law: a fault leaves a log of items that differ without a legal order
abbrev pub FaultsHaveNoOrder : Type 0
FaultsHaveNoOrder = (rules : Rules) (calls : List Call) (fault : Fault) → Differ calls → Stands rules calls fault → IsLinearizable rules calls → ⊥
