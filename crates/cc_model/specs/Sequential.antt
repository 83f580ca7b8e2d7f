-- A sequential queue, which one caller at a time uses: the answer to each call.
use Rattle.std.specs.Prelude.{◌≡◌, ◌≢◌, ℕ, ◌+◌, ◌<◌, ◌≤◌, Bool, true, false, List, length, Some}
use Rattle.std.specs.List.{slice_get}
use Rattle.cc_model.specs.Names.{Config, Call, Item, Answer, SendAnswer, CloseAnswer, TakeAnswer}

-- The answer of a sequential queue to its next call, when it has accepted these items, and is shut or not. The caller's group
-- was handed `handed` of the items, and every group `to_all` of them. So Full says that as many items wait as the queue holds,
-- and Empty that the group was handed all items.
abbrev pub Exactly : Config → (items : List Item) → (shut : Bool) → (handed to_all : ℕ) → Call → Answer → Type 0
Exactly cfg items shut handed to_all (Call.Send body) (Answer.Send SendAnswer.Closed) = shut ≡ true
Exactly cfg items shut handed to_all (Call.Send body) (Answer.Send SendAnswer.Spent) = (shut ≡ false) × (length items ≡ cfg.life)
Exactly cfg items shut handed to_all (Call.Send body) (Answer.Send SendAnswer.Full) = (shut ≡ false) × (length items ≢ cfg.life) × (length items ≡ to_all + cfg.capacity)
Exactly cfg items shut handed to_all (Call.Send body) (Answer.Send (SendAnswer.Accepted place)) =
    (shut ≡ false) × (length items ≢ cfg.life) × (length items < to_all + cfg.capacity) × (place ≡ length items)
Exactly cfg items shut handed to_all Call.Close (Answer.Close (CloseAnswer.Shut total)) = (shut ≡ false) × (total ≡ length items)
Exactly cfg items shut handed to_all Call.Close (Answer.Close (CloseAnswer.Already total)) = (shut ≡ true) × (total ≡ length items)
Exactly cfg items shut handed to_all Call.Take (Answer.Take (TakeAnswer.Got item)) = slice_get items handed ≡ Some item
Exactly cfg items shut handed to_all Call.Take (Answer.Take TakeAnswer.Empty) = (shut ≡ false) × (handed ≡ length items)
Exactly cfg items shut handed to_all Call.Take (Answer.Take (TakeAnswer.Ended total)) = (shut ≡ true) × (handed ≡ length items) × (total ≡ length items)
Exactly _ _ _ _ _ _ _ = ⊥

-- no call has two answers
abbrev pub NoTwoAnswers : Type 0
NoTwoAnswers = (cfg : Config) (items : List Item) (shut : Bool) (handed to_all : ℕ) (call : Call) (a b : Answer)
    → Exactly cfg items shut handed to_all call a → Exactly cfg items shut handed to_all call b → a ≡ b

-- and each call has one, of a queue in which at most `capacity` items wait
abbrev pub EachCallHasAnAnswer : Type 0
EachCallHasAnAnswer = (cfg : Config) (items : List Item) (shut : Bool) (handed to_all : ℕ) (call : Call)
    → handed ≤ length items → length items ≤ to_all + cfg.capacity → (a : Answer) × Exactly cfg items shut handed to_all call a
