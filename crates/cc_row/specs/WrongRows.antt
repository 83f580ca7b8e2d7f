-- Wrong rows: rules by which a queue is appended, or used, too early. From outside none of them is one queue.
use Rattle.std.specs.Prelude.{◌≡◌, ℕ, ◌<◌, ◌≤◌, ◌==◌, ◌||◌, Bool, true, false, List, [], ◌∷◌, length, if◌then◌else◌}
use Rattle.cc_row.specs.Names.{Config, Call, Answer, SendAnswer, CloseAnswer, TakeAnswer}
use Rattle.cc_row.specs.Row.{At, ended_at, shut_at, IsRow, IsOneQueueBy, RowsAreQueues, outside}
use Rattle.cc_row.specs.SmallRows.{send, close, take, item}

-- ---- the rules

-- a take that found no item
abbrev pub has_none : Answer → Bool
has_none (Answer.Take TakeAnswer.Empty) = true
has_none (Answer.Take (TakeAnswer.Ended total)) = true
has_none _ = false

abbrev pub found_none_at : (q g : ℕ) → List At → Bool
found_none_at q g [] = false
found_none_at q g (e ∷ earlier) = if e.queue == q then (if e.group == g then found_none_at q g earlier || has_none e.answer else found_none_at q g earlier) else found_none_at q g earlier

-- A queue is appended and none is closed. A group goes on when it finds no item.
abbrev pub StartsUnclosed : (q g : ℕ) → Call → List At → Type 0
StartsUnclosed q g Call.Take earlier = (k : ℕ) → k < q → found_none_at k g earlier ≡ true
StartsUnclosed q g _ earlier = Unit {0}

-- A queue is used before the one before it is closed. A group goes on when that one has ended.
abbrev pub StartsEarly : (q g : ℕ) → Call → List At → Type 0
StartsEarly q g Call.Take earlier = (k : ℕ) → k < q → ended_at k g earlier ≡ true
StartsEarly q g _ earlier = Unit {0}

-- A queue is used once the one before it is closed. A group goes on at any time.
abbrev pub StartsAhead : (q g : ℕ) → Call → List At → Type 0
StartsAhead q g Call.Take earlier = Unit {0}
StartsAhead q g Call.Close earlier = (k : ℕ) → k < q → shut_at k earlier ≡ true
StartsAhead q g (Call.Send body) earlier = (k : ℕ) → k < q → shut_at k earlier ≡ true

-- A row whose takes return Ended at a queue that isn't the last one.
abbrev pub OneQueueBySomeEnd : Type 0
OneQueueBySomeEnd = (cfg : ℕ → Config) (wide : Config) (some last : ℕ) (order : List At) → some ≤ last → IsRow cfg last order
    → length order ≤ wide.capacity → length order ≤ wide.life → IsRow (λ (q : ℕ). wide) 0 (outside some order)

-- ---- what each does wrong, the newest call first

-- the second item is taken before the first
abbrev pub unclosed : List At
unclosed = take 1 (TakeAnswer.Got (item 0 2)) ∷ send 1 2 (SendAnswer.Accepted 0) ∷ send 0 1 (SendAnswer.Accepted 0) ∷ take 0 TakeAnswer.Empty ∷ []

-- a take finds nothing after a send was accepted
abbrev pub early : List At
early = take 0 TakeAnswer.Empty ∷ send 1 1 (SendAnswer.Accepted 0) ∷ []

-- the second item is taken before the first
abbrev pub ahead : List At
ahead = take 1 (TakeAnswer.Got (item 0 3)) ∷ send 1 3 (SendAnswer.Accepted 0) ∷ close 0 (CloseAnswer.Shut 1) ∷ send 0 1 (SendAnswer.Accepted 0) ∷ []

-- a take returns Ended though an item is there
abbrev pub ended : List At
ended = take 0 (TakeAnswer.Ended 0) ∷ send 1 1 (SendAnswer.Accepted 0) ∷ close 0 (CloseAnswer.Shut 0) ∷ []

-- a configuration with room for all of them
abbrev pub wide : Config
wide = record { senders = 1; receivers = 1; capacity = 9; bound = 1; life = 9; per_sender = 9; groups = 1 }

-- ---- the verdict of the law

pub record WrongRows : Type 0 where
  pub right : RowsAreQueues
  pub unclosed_is_none : IsOneQueueBy StartsUnclosed → ⊥
  pub early_is_none : IsOneQueueBy StartsEarly → ⊥
  pub ahead_is_none : IsOneQueueBy StartsAhead → ⊥
  pub early_ends_are_none : OneQueueBySomeEnd → ⊥
