-- A small row. Two queues with one place each: the first is full, so it is closed, and the second is used.
use Rattle.std.specs.Prelude.{◌≡◌, ℕ, List, [], ◌∷◌}
use Rattle.cc_row.specs.Names.{Config, Body, Words, Call, Item, Answer, SendAnswer, CloseAnswer, TakeAnswer}
use Rattle.cc_row.specs.Row.{At, IsChain, outside}

abbrev pub body : Body
body = record { words = Words.One (7 ∷ []) }

-- one sender, one group, of one place
abbrev pub narrow : Config
narrow = record { senders = 1; receivers = 1; capacity = 1; bound = 1; life = 9; per_sender = 9; groups = 1 }

abbrev pub send : (queue number : ℕ) → SendAnswer → At
send queue number a = record { queue = queue; group = 0; sender = 1; number = number; call = Call.Send body; answer = Answer.Send a }

abbrev pub close : (queue : ℕ) → CloseAnswer → At
close queue a = record { queue = queue; group = 0; sender = 1; number = 0; call = Call.Close; answer = Answer.Close a }

abbrev pub take : (queue : ℕ) → TakeAnswer → At
take queue a = record { queue = queue; group = 0; sender = 1; number = 0; call = Call.Take; answer = Answer.Take a }

abbrev pub item : (place number : ℕ) → Item
item place number = record { place = place; sender = 1; number = number; body = body }

-- the newest call first
abbrev pub small : List At
small =
    take 1 (TakeAnswer.Ended 1) ∷ close 1 (CloseAnswer.Shut 1) ∷ take 1 (TakeAnswer.Got (item 0 3)) ∷ take 0 (TakeAnswer.Ended 1) ∷ take 0 (TakeAnswer.Got (item 0 1))
    ∷ send 1 3 (SendAnswer.Accepted 0) ∷ close 0 (CloseAnswer.Shut 1) ∷ send 0 2 SendAnswer.Full ∷ send 0 1 (SendAnswer.Accepted 0) ∷ []

-- the answers that its callers get
abbrev pub small_outside : List At
small_outside =
    take 0 (TakeAnswer.Ended 2) ∷ close 0 (CloseAnswer.Shut 2) ∷ take 0 (TakeAnswer.Got (item 1 3)) ∷ take 0 (TakeAnswer.Got (item 0 1))
    ∷ send 0 3 (SendAnswer.Accepted 1) ∷ send 0 1 (SendAnswer.Accepted 0) ∷ []

pub record SmallRows : Type 0 where
  pub good : IsChain (λ (q : ℕ). narrow) 1 small
  pub reported : outside 1 small ≡ small_outside
