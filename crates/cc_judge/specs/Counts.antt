-- The faults that count: at a time more items are left than takes that may have them.
use Rattle.std.specs.Prelude.{◌≡◌, ◌≢◌, ℕ, zero, suc, ◌<◌, ◌≤◌, ◌⊎◌, true, List, length, Option, Some, None, slice_get}
use Rattle.std.specs.List.Sorted.{IsNonDecreasingBy}
use Rattle.cc_judge.specs.Names.{Act, Call, Rules}
use Rattle.cc_judge.specs.Order.{EndsBefore, IsLinearizable}
use Rattle.cc_judge.specs.Faults.{Did, Differ, Returned, Passed, WasAccepted, WasClosed, EndedBy, BeganBy, BeganAfter, FindsNone, In, Once}

-- ---- the items that are left, and the takes that may have them

-- the queue was closed before a time, and the send had been accepted, so it was done by then
pub record IsShutOut (rules : Rules) (calls : List Call) (send item time : ℕ) : Type 0 where
  pub judged : rules.closes ≡ true
  pub accepted : WasAccepted calls send item
  pub closed : ℕ
  pub was_closed : WasClosed calls closed
  pub by : EndedBy calls closed time

-- the call at this place sent the item, and was done before the time: it ended before, or the queue was closed before
pub record SentBy (rules : Rules) (calls : List Call) (send item time : ℕ) : Type 0 where
  pub sent : Did calls send (Act.Send item)
  pub done : EndedBy calls send time ⊎ IsShutOut rules calls send item time

-- the item was sent before the time, and no call took it
pub record IsLeftBy (rules : Rules) (calls : List Call) (time send : ℕ) : Type 0 where
  pub item : ℕ
  pub sent_by : SentBy rules calls send item time
  pub untaken : (take : ℕ) → Did calls take (Act.Took item) → ⊥

-- the call at this place is a take that hasn't returned, and began by the time
abbrev pub WaitsBy : List Call → (time take : ℕ) → Type 0
WaitsBy calls time take = Did calls take Act.Taking × BeganBy calls take time

-- More items were sent before the one time, and taken by no call, than takes that haven't returned began by the other. So one of the
-- items wasn't taken by then.
pub record MoreLeft (rules : Rules) (calls : List Call) (sent began : ℕ) : Type 0 where
  pub sends : List ℕ
  pub apart : Once sends
  pub each : (send : ℕ) → In send sends → IsLeftBy rules calls sent send
  pub takes : List ℕ
  pub all : (take : ℕ) → WaitsBy calls began take → In take takes
  pub more : length takes < length sends

-- the same of none: of such items are no more than such takes
abbrev pub AreEnough : Rules → List Call → (sent began : ℕ) → Type 0
AreEnough rules calls sent began = (sends : List ℕ) → Once sends → ((send : ℕ) → In send sends → IsLeftBy rules calls sent send) → (takes : List ℕ) × (length takes ≡ length sends) × Once takes × ((take : ℕ) → In take takes → WaitsBy calls began take)

-- an item was sent before the one time, and the call that took it began after the other; or more are left than takes may have
pub record StayedOn (rules : Rules) (calls : List Call) (sent began : ℕ) : Type 0 where
  pub send : ℕ
  pub take : ℕ
  pub item : ℕ
  pub sent_by : SentBy rules calls send item sent
  pub took : Returned calls take (Act.Took item)
  pub later : BeganAfter calls take began

-- an item that was sent before the one time was in the queue until after the other
abbrev pub IsInside : Rules → List Call → (sent began : ℕ) → Type 0
IsInside rules calls sent began = StayedOn rules calls sent began ⊎ MoreLeft rules calls sent began

-- ---- lists of them, with times

-- it holds of the place after this time, and not before; or never
abbrev pub Since : (P : (time place : ℕ) → Type 0) → (place : ℕ) → Option ℕ → Type 0
Since P place None = (time : ℕ) → P time place → ⊥
Since P place (Some from) = ((time : ℕ) → from < time → P time place) × ((time : ℕ) → P time place → from < time)

-- it held by the time before
abbrev pub Upto : (P : (time place : ℕ) → Type 0) → (time place : ℕ) → Type 0
Upto P zero place = ⊥
Upto P (suc time) place = P time place

abbrev pub AreSorted : List (ℕ × ℕ) → Type 0
AreSorted xs = IsNonDecreasingBy (λ (x : ℕ × ℕ). x.0) xs

-- The sorted list has each place of which it holds at a time, once. With each it has the time after which it holds.
pub record HasTimes (P : (time place : ℕ) → Type 0) (list : List (ℕ × ℕ)) : Type 0 where
  pub each : (k time place : ℕ) → slice_get list k ≡ Some (time, place) → Since P place (Some time)
  pub all : (place later : ℕ) → P later place → (k time : ℕ) × (slice_get list k ≡ Some (time, place)) × (time < later)
  pub apart : (j k time other place : ℕ) → slice_get list j ≡ Some (time, place) → slice_get list k ≡ Some (other, place) → j ≡ k
  pub sorted : AreSorted list

-- the first elements, this many, are those below the time
pub record AreFirst (xs : List (ℕ × ℕ)) (number time : ℕ) : Type 0 where
  pub within : number ≤ length xs
  pub first : (k at place : ℕ) → k < number → slice_get xs k ≡ Some (at, place) → at < time
  pub rest : (k at place : ℕ) → slice_get xs k ≡ Some (at, place) → at < time → k < number

-- ---- faults

-- the call at this place has exactly this act, and these times
pub record DidFrom (calls : List Call) (place : ℕ) (act : Act) (begin end : ℕ) : Type 0 where
  pub did : Did calls place act
  pub begin_is : did.call.begin ≡ begin
  pub end_is : did.call.end ≡ Some end

-- two items were sent one after the other, by the times of the sends; the later one was taken before the take of the earlier one began
pub record TookOver (calls : List Call) (send take later_send later_take : ℕ) : Type 0 where
  pub earlier : Passed calls send take
  pub later : Passed calls later_send later_take
  pub sent_first : EndsBefore calls send later_send
  pub apart : later_take ≢ take
  pub taken_last : EndsBefore calls later_take take

-- an item was taken, though of those that were sent before it more were left than takes may have had by then
pub record LeftBehind (rules : Rules) (calls : List Call) (later_send later_take : ℕ) : Type 0 where
  pub item : ℕ
  pub sent : Did calls later_send (Act.Send item)
  pub took : Did calls later_take (Act.Took item)
  pub end : ℕ
  pub ended : took.call.end ≡ Some end
  pub left : MoreLeft rules calls sent.call.begin end

-- a take found none, and at each of its times an item was in the queue
pub record NeverEmpty (rules : Rules) (calls : List Call) (call : ℕ) : Type 0 where
  pub act : Act
  pub finds_none : FindsNone act
  pub begin : ℕ
  pub end : ℕ
  pub found_none : DidFrom calls call act begin end
  pub timed : begin ≤ end
  pub inside : (time : ℕ) → begin ≤ time → time ≤ end → IsInside rules calls time time

-- a take found the queue closed and empty, and when it ended an item was in the queue that was sent while the queue was open
pub record EndedWithItems (rules : Rules) (calls : List Call) (call : ℕ) : Type 0 where
  pub judged : rules.closes ≡ true
  pub begin : ℕ
  pub end : ℕ
  pub found_none : DidFrom calls call Act.Ended begin end
  pub inside : IsInside rules calls (suc end) end

-- The law: each fault that counts, and the one of two items, leaves a log of items that differ without a legal order.
pub record CountsHaveNoOrder : Type 0 where
  pub took_over : (rules : Rules) (calls : List Call) (send take later_send later_take : ℕ) → Differ calls → TookOver calls send take later_send later_take → IsLinearizable rules calls → ⊥
  pub left_behind : (rules : Rules) (calls : List Call) (later_send later_take : ℕ) → Differ calls → LeftBehind rules calls later_send later_take → IsLinearizable rules calls → ⊥
  pub never_empty : (rules : Rules) (calls : List Call) (call : ℕ) → Differ calls → NeverEmpty rules calls call → IsLinearizable rules calls → ⊥
  pub ended_with_items : (rules : Rules) (calls : List Call) (call : ℕ) → Differ calls → EndedWithItems rules calls call → IsLinearizable rules calls → ⊥

-- The law: lists of the sends and the takes, of which the first ones are counted up to a time, show that more are left, or that takes
-- are enough; and both isn't so.
pub record CountsAreRight : Type 0 where
  pub enough : (rules : Rules) (calls : List Call) (lefts waits : List (ℕ × ℕ)) (left wait sent began : ℕ) → HasTimes (IsLeftBy rules calls) lefts → HasTimes (Upto (WaitsBy calls)) waits → AreFirst lefts left sent → AreFirst waits wait (suc began) → left ≤ wait → AreEnough rules calls sent began
  pub more : (rules : Rules) (calls : List Call) (lefts waits : List (ℕ × ℕ)) (left wait sent began : ℕ) → HasTimes (IsLeftBy rules calls) lefts → HasTimes (Upto (WaitsBy calls)) waits → AreFirst lefts left sent → AreFirst waits wait (suc began) → wait < left → MoreLeft rules calls sent began
  pub not_both : (rules : Rules) (calls : List Call) (sent began : ℕ) → AreEnough rules calls sent began → MoreLeft rules calls sent began → ⊥
