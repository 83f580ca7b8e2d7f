-- A row of queues. A send to a queue begins after each queue before it was closed, and a take of a group after that group has
-- found each queue before it ended. Then the row is one queue: seen from outside, the calls of an exact order of the row's
-- queues are an exact order of one queue that is never full and lives long enough.
use Rattle.std.specs.Prelude.{◌≡◌, ℕ, suc, zero, ◌+◌, ◌<◌, ◌≤◌, ◌==◌, ◌||◌, Bool, true, false, List, [], ◌∷◌, ◌++◌, length, if◌then◌else◌, Option, Some, None}
use Rattle.cc_model.specs.Items.{shuts, handed_item}
use Rattle.cc_model.specs.Sequential.{Exactly}
use Rattle.cc_row.specs.Names.{Config, Call, Item, Answer, SendAnswer, CloseAnswer, TakeAnswer}

-- a call at a queue of the row that takes effect, with its answer; the group is of a take, the sender and the number of a send
pub record At : Type 0 where
  pub queue : ℕ
  pub group : ℕ
  pub sender : ℕ
  pub number : ℕ
  pub call : Call
  pub answer : Answer

-- ---- the state of each queue after an order, whose newest call is its first element

-- the item that the call adds
abbrev pub new_item : (sender number : ℕ) → Call → Answer → List Item
new_item sender number (Call.Send body) (Answer.Send (SendAnswer.Accepted place)) = record { place = place; sender = sender; number = number; body = body } ∷ []
new_item sender number _ _ = []

abbrev pub new_of : At → List Item
new_of e = new_item e.sender e.number e.call e.answer

abbrev pub ends : Answer → Bool
ends (Answer.Take (TakeAnswer.Ended total)) = true
ends _ = false

-- what the queue accepted
abbrev pub items_at : ℕ → List At → List Item
items_at q [] = []
items_at q (e ∷ earlier) = if e.queue == q then items_at q earlier ++ new_of e else items_at q earlier

-- whether it is shut
abbrev pub shut_at : ℕ → List At → Bool
shut_at q [] = false
shut_at q (e ∷ earlier) = if e.queue == q then shut_at q earlier || shuts e.answer else shut_at q earlier

-- how many of its items it handed to the group
abbrev pub taken_at : (q g : ℕ) → List At → ℕ
taken_at q g [] = 0
taken_at q g (e ∷ earlier) = if e.queue == q then (if e.group == g then taken_at q g earlier + length (handed_item e.answer) else taken_at q g earlier) else taken_at q g earlier

-- whether the group found it ended
abbrev pub ended_at : (q g : ℕ) → List At → Bool
ended_at q g [] = false
ended_at q g (e ∷ earlier) = if e.queue == q then (if e.group == g then ended_at q g earlier || ends e.answer else ended_at q g earlier) else ended_at q g earlier

-- ---- a row

-- the call begins late enough
abbrev pub StartsLate : (q g : ℕ) → Call → List At → Type 0
StartsLate q g Call.Take earlier = (k : ℕ) → k < q → ended_at k g earlier ≡ true
StartsLate q g Call.Close earlier = (k : ℕ) → k < q → shut_at k earlier ≡ true
StartsLate q g (Call.Send body) earlier = (k : ℕ) → k < q → shut_at k earlier ≡ true

-- Each queue, up to the last one, answers as a sequential queue of its configuration, and each call begins late enough, as this rule
-- says. How many items all groups took matters to Full alone, which stays within the row.
abbrev pub IsRowBy : (Starts : (q g : ℕ) → Call → List At → Type 0) → (cfg : ℕ → Config) (last : ℕ) → List At → Type 0
IsRowBy Starts cfg last [] = Unit {0}
IsRowBy Starts cfg last (e ∷ earlier) =
    IsRowBy Starts cfg last earlier × (e.queue ≤ last) × Starts e.queue e.group e.call earlier
    × ((to_all : ℕ) × Exactly (cfg e.queue) (items_at e.queue earlier) (shut_at e.queue earlier) (taken_at e.queue e.group earlier) to_all e.call e.answer)

-- a row
abbrev pub IsRow : (cfg : ℕ → Config) (last : ℕ) → List At → Type 0
IsRow cfg last order = IsRowBy StartsLate cfg last order

-- Each call is only known to begin after the queue before its own was closed, or found ended by its group: then so were all before.
abbrev pub StartsNext : (q g : ℕ) → Call → List At → Type 0
StartsNext q g Call.Take earlier = (k : ℕ) → suc k ≡ q → ended_at k g earlier ≡ true
StartsNext q g Call.Close earlier = (k : ℕ) → suc k ≡ q → shut_at k earlier ≡ true
StartsNext q g (Call.Send body) earlier = (k : ℕ) → suc k ≡ q → shut_at k earlier ≡ true

abbrev pub IsChain : (cfg : ℕ → Config) (last : ℕ) → List At → Type 0
IsChain cfg last order = IsRowBy StartsNext cfg last order

abbrev pub ChainsAreRows : Type 0
ChainsAreRows = (cfg : ℕ → Config) (last : ℕ) (order : List At) → IsChain cfg last order → IsRow cfg last order

-- ---- seen from outside

-- how many items the queues before this one accepted
abbrev pub before : ℕ → List At → ℕ
before zero order = 0
before (suc q) order = before q order + length (items_at q order)

-- the item with its place in the row
abbrev pub moved : (base : ℕ) → Item → Item
moved base item = record { place = base + item.place; sender = item.sender; number = item.number; body = item.body }

-- The answer that the row's caller gets for an answer of one of its queues. Full and Spent of any queue, and Closed, Shut, Already and
-- Ended of a queue before the last one, stay within the row.
abbrev pub reported_by : (base : ℕ) → (is_last : Bool) → Answer → Option Answer
reported_by base is_last (Answer.Send (SendAnswer.Accepted place)) = Some (Answer.Send (SendAnswer.Accepted (base + place)))
reported_by base is_last (Answer.Take (TakeAnswer.Got item)) = Some (Answer.Take (TakeAnswer.Got (moved base item)))
reported_by base is_last (Answer.Take TakeAnswer.Empty) = Some (Answer.Take TakeAnswer.Empty)
reported_by base true (Answer.Send SendAnswer.Closed) = Some (Answer.Send SendAnswer.Closed)
reported_by base true (Answer.Close (CloseAnswer.Shut total)) = Some (Answer.Close (CloseAnswer.Shut (base + total)))
reported_by base true (Answer.Close (CloseAnswer.Already total)) = Some (Answer.Close (CloseAnswer.Already (base + total)))
reported_by base true (Answer.Take (TakeAnswer.Ended total)) = Some (Answer.Take (TakeAnswer.Ended (base + total)))
reported_by base _ _ = None

abbrev pub reported : (last : ℕ) → At → List At → Option Answer
reported last e earlier = reported_by (before e.queue earlier) (e.queue == last) e.answer

abbrev pub add : At → Option Answer → List At → List At
add e None rest = rest
add e (Some a) rest = record { queue = 0; group = e.group; sender = e.sender; number = e.number; call = e.call; answer = a } ∷ rest

-- the calls of the row with the answers that their callers get, as calls of one queue
abbrev pub outside : (last : ℕ) → List At → List At
outside last [] = []
outside last (e ∷ earlier) = add e (reported last e earlier) (outside last earlier)

-- From outside, a row by this rule is one queue.
abbrev pub IsOneQueueBy : (Starts : (q g : ℕ) → Call → List At → Type 0) → Type 0
IsOneQueueBy Starts = (cfg : ℕ → Config) (wide : Config) (last : ℕ) (order : List At) → IsRowBy Starts cfg last order
    → length order ≤ wide.capacity → length order ≤ wide.life → IsRow (λ (q : ℕ). wide) 0 (outside last order)

-- A row of queues is one queue.
abbrev pub RowsAreQueues : Type 0
RowsAreQueues = IsOneQueueBy StartsLate
