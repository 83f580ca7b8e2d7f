-- A row whose queues hold at most `bound` items each, seen from outside: one queue that holds `bound` items.
use Rattle.std.specs.Prelude.{◌≡◌, ℕ, ◌+◌, ◌<◌, ◌≤◌, Bool, true, false, List, [], ◌∷◌, ◌++◌, length, Option, Some, ◌⊎◌}
use Rattle.cc_model.specs.Record.{Record}
use Rattle.cc_model.specs.Items.{IsPrefix, accepted, accepted_by, is_shut, handed, handed_by}
use Rattle.cc_model.specs.Legal.{SendSideAnswers, TakeSideAnswers}
use Rattle.cc_joined.specs.Names.{Config, Entry, Answer, SendAnswer}
use Rattle.cc_joined.specs.Joined.{moved_entry, reported, add_call, add_answer, count_of, row_calls, row_answers}
use Rattle.cc_joined.specs.Joined.{row_items, takes_of, IsLegalOf, AreShut, GoesInOrder}

-- The row's caller gets Full of any queue too.
abbrev pub told : (base : ℕ) → (is_last : Bool) → Answer → Option Answer
told base is_last (Answer.Send SendAnswer.Full) = Some (Answer.Send SendAnswer.Full)
told base is_last answer = reported base is_last answer

-- the senders' calls of a queue that were answered, as the row reports them
abbrev pub sends_in : (base : ℕ) → (is_last : Bool) → List Entry → List Answer → List Entry
sends_in base is_last [] answers = []
sends_in base is_last (c ∷ calls) [] = []
sends_in base is_last (c ∷ calls) (a ∷ answers) = add_call (moved_entry base c) (told base is_last a)
    (sends_in base is_last calls answers)

abbrev pub told_in : (base : ℕ) → (is_last : Bool) → List Entry → List Answer → List Answer
told_in base is_last [] answers = []
told_in base is_last (c ∷ calls) [] = []
told_in base is_last (c ∷ calls) (a ∷ answers) = add_answer (told base is_last a) (told_in base is_last calls answers)

abbrev pub bound_calls : (base : ℕ) → List Record → Record → List Entry
bound_calls base [] last = sends_in base true last.sends.calls last.sends.answers
bound_calls base (h ∷ early) last = sends_in base false h.sends.calls h.sends.answers ++ bound_calls
    (base + length (accepted h)) early last

abbrev pub bound_answers : (base : ℕ) → List Record → Record → List Answer
bound_answers base [] last = told_in base true last.sends.calls last.sends.answers
bound_answers base (h ∷ early) last = told_in base false h.sends.calls h.sends.answers ++ bound_answers
    (base + length (accepted h)) early last

-- ---- the rules of a row with a bound

-- the history is legal, by a configuration of this number of groups and this capacity
pub record IsBoundedOf (groups bound : ℕ) (h : Record) : Type 0 where
  pub of : IsLegalOf groups h
  pub capacity_is : of.config.capacity ≡ bound

abbrev pub AreBounded : (groups bound : ℕ) → List Record → Type 0
AreBounded groups bound [] = Unit {0}
AreBounded groups bound (h ∷ early) = IsBoundedOf groups bound h × (is_shut h ≡ true) × AreBounded groups bound early

-- how many items the group was handed by all these queues
abbrev pub handed_of : (g : ℕ) → List Record → Record → ℕ
handed_of g [] last = length (handed last g)
handed_of g (h ∷ early) last = length (handed h g) + handed_of g early last

-- Of the first queue that the group isn't done with, and of all later ones, no more items wait for it than the bound.
abbrev pub HasRoom : (bound g : ℕ) → List Record → Record → Type 0
HasRoom bound g [] last = Unit {0}
HasRoom bound g (h ∷ early) last = ((length (handed h g) ≡ length (accepted h)) × HasRoom bound g early last)
    ⊎ (length (accepted h) + (count_of early + length (accepted last)) ≤ length (handed h g) + bound)

-- a row with a bound, with this number of groups
pub record IsBoundedRow (groups bound : ℕ) (early : List Record) (last : Record) : Type 0 where
  pub shut : AreBounded groups bound early
  pub last_legal : IsBoundedOf groups bound last
  pub in_order : (g : ℕ) → g < groups → GoesInOrder g early last
  pub room : (g : ℕ) → g < groups → HasRoom bound g early last

-- ---- seen from outside

-- The calls of the row that were answered have the answers of one sequential queue with this capacity, each Full among
-- them; and no more items are
-- in it than its capacity, for any group.
pub record IsOneBounded (groups : ℕ) (one : Config) (early : List Record) (last : Record) : Type 0 where
  pub sends : SendSideAnswers one 0 false (bound_calls 0 early last) (bound_answers 0 early last)
  pub items : accepted_by (bound_calls 0 early last) (bound_answers 0 early last) ≡ row_items 0 early last
  pub takes : (g : ℕ) → g < groups
      → TakeSideAnswers (row_items 0 early last) (is_shut last) 0 (row_calls (takes_of g) 0 early last)
      (row_answers (takes_of g) 0 early last)
  pub fifo : (g : ℕ) → g < groups
      → IsPrefix (handed_by (row_answers (takes_of g) 0 early last)) (row_items 0 early last)
  pub room : (g : ℕ) → g < groups
      → length (row_items 0 early last) ≤ length (handed_by (row_answers (takes_of g) 0 early last)) + one.capacity

abbrev pub BoundedIsLegal : Type 0
BoundedIsLegal = (groups : ℕ) (one : Config) (early : List Record) (last : Record)
    → IsBoundedRow groups one.capacity early last
    → count_of early + length (accepted last) < one.life → IsOneBounded groups one early last

-- The sends alone, whatever the groups did.
abbrev pub BoundedSendsAreLegal : Type 0
BoundedSendsAreLegal = (groups : ℕ) (one : Config) (early : List Record) (last : Record)
    → AreBounded groups one.capacity early → IsBoundedOf groups one.capacity last
    → count_of early + length (accepted last) < one.life
    → SendSideAnswers one 0 false (bound_calls 0 early last) (bound_answers 0 early last)

-- The room alone, of one group.
abbrev pub BoundedHasRoom : Type 0
BoundedHasRoom = (groups bound g : ℕ) (early : List Record) (last : Record) → g < groups → AreBounded groups bound early
    → IsBoundedOf groups bound last → GoesInOrder g early last
    → HasRoom bound g early last
    → length (row_items 0 early last) ≤ length (handed_by (row_answers (takes_of g) 0 early last)) + bound

-- ---- each Full is right

-- The last queue is full for a group: so is the row, at each queue that the group may be at.
abbrev pub FullOfTheLastIsRight : Type 0
FullOfTheLastIsRight = (groups bound g : ℕ) (early : List Record) (last : Record) → g < groups → AreShut groups early
    → length (handed last g) + bound ≤ length (accepted last)
    → handed_of g early last + bound ≤ count_of early + length (accepted last)

-- The items that the row was handed are those of its queues, and no group was handed more than was accepted.
abbrev pub HandedAreCounted : Type 0
HandedAreCounted = (groups g : ℕ) (early : List Record) (last : Record) → g < groups → AreShut groups early
    → IsLegalOf groups last
    → length (handed_by (row_answers (takes_of g) 0 early last)) ≡ handed_of g early last

-- ---- how the rule of the room is kept

-- the queues after this one have accepted nothing
abbrev pub IsUntouched : List Record → Record → Type 0
IsUntouched early last = count_of early + length (accepted last) ≡ 0

-- a queue accepts nothing before the group is done with those before it
abbrev pub WaitsFor : (g : ℕ) → List Record → Record → Type 0
WaitsFor g [] last = Unit {0}
WaitsFor g (h ∷ early) last = ((length (handed h g) ≡ length (accepted h)) × WaitsFor g early last) ⊎ IsUntouched early
    last

-- That is enough.
abbrev pub WaitingIsEnough : Type 0
WaitingIsEnough = (groups bound g : ℕ) (early : List Record) (last : Record) → g < groups
    → AreBounded groups bound early → WaitsFor g early last → HasRoom bound g early last
