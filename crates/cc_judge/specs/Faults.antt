-- The faults of a log: patterns, each of which leaves it without a legal order. Those of items that were overtaken or left are in
-- Counts.
use Rattle.std.specs.Prelude.{◌≡◌, ◌≢◌, ℕ, suc, ◌+◌, ◌<◌, ◌≤◌, ◌⊎◌, List, [], ◌∷◌, true, length, Some, IsSome, slice_get}
use Rattle.cc_judge.specs.Names.{Act, Call, Rules}
use Rattle.cc_judge.specs.Order.{EndsBefore}

-- the call at this place has exactly this act
pub record Did (calls : List Call) (place : ℕ) (act : Act) : Type 0 where
  pub call : Call
  pub call_is : slice_get calls place ≡ Some call
  pub act_is : call.act ≡ act

-- the call at this place has exactly this act, and returned
pub record Returned (calls : List Call) (place : ℕ) (act : Act) : Type 0 where
  pub call : Call
  pub call_is : slice_get calls place ≡ Some call
  pub act_is : call.act ≡ act
  pub ended : IsSome call.end

-- no item is sent by two calls
abbrev pub Differ : List Call → Type 0
Differ calls = (item i j : ℕ) → Did calls i (Act.Send item) → Did calls j (Act.Send item) → i ≡ j

-- an item was taken, and no call sent it
pub record NeverSent (calls : List Call) (take : ℕ) : Type 0 where
  pub item : ℕ
  pub took : Returned calls take (Act.Took item)
  pub none : (i : ℕ) → Did calls i (Act.Send item) → ⊥

-- the call at one place took the item that the call at the other sent
pub record Passed (calls : List Call) (send take : ℕ) : Type 0 where
  pub item : ℕ
  pub sent : Did calls send (Act.Send item)
  pub took : Returned calls take (Act.Took item)

-- a take ended before the send of its item began
pub record TakenBeforeSent (calls : List Call) (send take : ℕ) : Type 0 where
  pub passed : Passed calls send take
  pub early : EndsBefore calls take send

-- two calls took one item
pub record TakenTwice (calls : List Call) (first second : ℕ) : Type 0 where
  pub item : ℕ
  pub apart : first ≢ second
  pub took : Returned calls first (Act.Took item)
  pub took_again : Returned calls second (Act.Took item)

-- the act closes the queue, or answers that it is closed
abbrev pub ShowsClosed : Act → Type 0
ShowsClosed act = (act ≡ Act.Close) ⊎ (act ≡ Act.Closed) ⊎ (act ≡ Act.Ended)

-- the call at this place returned, and the queue was closed by its end
pub record WasClosed (calls : List Call) (place : ℕ) : Type 0 where
  pub act : Act
  pub shows : ShowsClosed act
  pub returned : Returned calls place act

-- the call at this place sent the item and was accepted: it returned so, or a call took what it sent
abbrev pub WasAccepted : List Call → (send item : ℕ) → Type 0
WasAccepted calls send item = Returned calls send (Act.Send item) ⊎ ((take : ℕ) × Passed calls send take)

-- the element is in the list
abbrev pub In : {X : Type 0} → X → List X → Type 0
In s [] = ⊥
In s (x ∷ xs) = (x ≡ s) ⊎ In s xs

-- no element is in the list twice
abbrev pub Once : List ℕ → Type 0
Once [] = Unit {0}
Once (x ∷ xs) = (In x xs → ⊥) × Once xs

-- a take found none, whether or not the queue was closed
abbrev pub FindsNone : Act → Type 0
FindsNone act = (act ≡ Act.FoundNone) ⊎ (act ≡ Act.Ended)

-- a send that found the queue open: it found it full, or was accepted
abbrev pub WasOpen : List Call → (send : ℕ) → Type 0
WasOpen calls send = Returned calls send Act.Full ⊎ ((item : ℕ) × WasAccepted calls send item)

-- the queue was closed by the end of one call, and a send that began after that found it open
pub record Reopened (rules : Rules) (calls : List Call) (closed send : ℕ) : Type 0 where
  pub judged : rules.closes ≡ true
  pub was_closed : WasClosed calls closed
  pub after : EndsBefore calls closed send
  pub was_open : WasOpen calls send

-- a call was answered that the queue is closed, and each close began after that
pub record ClosedEarly (rules : Rules) (calls : List Call) (call : ℕ) : Type 0 where
  pub judged : rules.closes ≡ true
  pub act : Act
  pub answered : (act ≡ Act.Closed) ⊎ (act ≡ Act.Ended)
  pub returned : Returned calls call act
  pub later : (close : ℕ) → Did calls close Act.Close → EndsBefore calls call close

-- the call at this place began by this time
pub record BeganBy (calls : List Call) (place time : ℕ) : Type 0 where
  pub call : Call
  pub call_is : slice_get calls place ≡ Some call
  pub by : call.begin ≤ time

-- the call at this place ended before this time
pub record EndedBy (calls : List Call) (place time : ℕ) : Type 0 where
  pub call : Call
  pub call_is : slice_get calls place ≡ Some call
  pub end : ℕ
  pub ended : call.end ≡ Some end
  pub by : end < time

-- At a time fewer items than this number may be in the queue: each other one whose send began by then was taken before.
pub record FewerAt (calls : List Call) (number time : ℕ) : Type 0 where
  pub may : List ℕ
  pub fewer : length may < number
  pub others : (send item : ℕ) → Did calls send (Act.Send item) → BeganBy calls send time → In item may ⊎ ((take : ℕ) × Returned calls take (Act.Took item) × EndedBy calls take time)

-- a send found the queue full, and at each of its times fewer items than it holds may have been in it
pub record NotFull (rules : Rules) (calls : List Call) (call : ℕ) : Type 0 where
  pub capacity : ℕ
  pub capacity_is : rules.capacity ≡ Some capacity
  pub begin : ℕ
  pub end : ℕ
  pub full : (one : Call) × (slice_get calls call ≡ Some one) × (one.act ≡ Act.Full) × (one.begin ≡ begin) × (one.end ≡ Some end)
  pub at_begin : FewerAt calls capacity begin
  pub at_sends : (send item : ℕ) (one : Call) → slice_get calls send ≡ Some one → one.act ≡ Act.Send item → begin ≤ one.begin → one.begin ≤ end → FewerAt calls capacity one.begin

-- the call at this place began after this time
pub record BeganAfter (calls : List Call) (place time : ℕ) : Type 0 where
  pub call : Call
  pub call_is : slice_get calls place ≡ Some call
  pub after : time < call.begin

-- the call at this place may have taken the item: it did; or it is a take that hasn't returned, and no call that returned took the item
abbrev pub MayHaveTaken : List Call → (take item : ℕ) → Type 0
MayHaveTaken calls take item = Did calls take (Act.Took item) ⊎ (Did calls take Act.Taking × ((i : ℕ) → Returned calls i (Act.Took item) → ⊥))

-- These sends had ended at a time, and they are more than a number and some takes together. Each other call that may have taken one of
-- their items began after that time. So more of their items than the number were in the queue then.
pub record MoreAt (calls : List Call) (sends : List ℕ) (number time : ℕ) : Type 0 where
  pub apart : Once sends
  pub each : (send : ℕ) → In send sends → (item : ℕ) × Did calls send (Act.Send item) × EndedBy calls send (suc time)
  pub takes : List ℕ
  pub more : number + length takes < length sends
  pub others : (send item take : ℕ) → In send sends → Did calls send (Act.Send item) → MayHaveTaken calls take item → In take takes ⊎ BeganAfter calls take time

-- when a call had ended, more of the items of these sends were in the queue than it holds
pub record TooMany (rules : Rules) (calls : List Call) (call : ℕ) (sends : List ℕ) : Type 0 where
  pub capacity : ℕ
  pub capacity_is : rules.capacity ≡ Some capacity
  pub end : ℕ
  pub ended : (one : Call) × (slice_get calls call ≡ Some one) × (one.end ≡ Some end)
  pub held : MoreAt calls sends capacity end
