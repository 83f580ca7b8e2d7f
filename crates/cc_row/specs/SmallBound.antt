-- A small row with a bound of one item: a look finds it full while it is narrow, and after a take the second queue gets an item, while the group
-- is still at the first one.
use Rattle.std.specs.Prelude.{◌≡◌, ℕ, List, [], ◌∷◌}
use Rattle.cc_row.specs.Names.{SendAnswer, CloseAnswer, TakeAnswer}
use Rattle.cc_row.specs.Row.{At}
use Rattle.cc_row.specs.SmallRows.{body, narrow, send, close, take, item}
use Rattle.cc_row.specs.Bound.{RowCall, at_queues, AreTogether, IsBoundedRow, told}

-- the newest call first, but for the last one
abbrev pub before_it : List RowCall
before_it = RowCall.IsAt (take 0 (TakeAnswer.Got (item 0 1))) ∷ RowCall.Refused 1 2 body ∷ RowCall.IsAt (close 0 (CloseAnswer.Shut 1)) ∷ RowCall.IsAt (send 0 1 (SendAnswer.Accepted 0)) ∷ []

abbrev pub small_bound : List RowCall
small_bound = RowCall.IsAt (send 1 3 (SendAnswer.Accepted 0)) ∷ before_it

-- the answers that its callers get
abbrev pub small_told : List At
small_told = send 0 3 (SendAnswer.Accepted 1) ∷ take 0 (TakeAnswer.Got (item 0 1)) ∷ record (send 0 2 SendAnswer.Full) { group = 0 } ∷ send 0 1 (SendAnswer.Accepted 0) ∷ []

pub record SmallBound : Type 0 where
  pub good : IsBoundedRow (λ (q : ℕ). narrow) 1 1 1 small_bound
  -- the last item is let in while the row is narrow
  pub is_narrow : AreTogether 1 1 (at_queues before_it) → ⊥
  pub told_is : told 1 small_bound ≡ small_told
