-- The histories of the queues of a row, one after another, as one history of calls that were answered.
use Rattle.std.specs.Prelude.{◌≡◌, ℕ, ◌+◌, ◌<◌, ◌≤◌, Bool, true, false, List, [], ◌∷◌, ◌++◌, map, length, Option, Some}
use Rattle.std.specs.Prelude.{None, ◌⊎◌}
use Rattle.cc_model.specs.Record.{Side, Record, of_group}
use Rattle.cc_model.specs.Items.{IsPrefix, accepted, accepted_by, is_shut, handed, handed_by}
use Rattle.cc_model.specs.Legal.{Legal, SendSideAnswers, TakeSideAnswers}
use Rattle.cc_joined.specs.Names.{Config, Item, Entry, Answer, SendAnswer, CloseAnswer, TakeAnswer}

-- the item with its place in the row
abbrev pub moved : (base : ℕ) → Item → Item
moved base item = record { place = base + item.place; sender = item.sender; number = item.number; body = item.body }

-- the call with what it knew of the row
abbrev pub moved_entry : (base : ℕ) → Entry → Entry
moved_entry base c = record { pass = c.pass; call = c.call; number = c.number; known = base + c.known }

-- The answer that the row's caller gets for an answer of one of its queues. Full and Spent of any queue, and Closed,
-- Shut, Already and
-- Ended of a queue before the last one, stay within the row.
abbrev pub reported : (base : ℕ) → (is_last : Bool) → Answer → Option Answer
reported base is_last (Answer.Send (SendAnswer.Accepted place)) =
    Some (Answer.Send (SendAnswer.Accepted (base + place)))
reported base is_last (Answer.Send SendAnswer.Full) = None
reported base is_last (Answer.Send SendAnswer.Spent) = None
reported base true (Answer.Send SendAnswer.Closed) = Some (Answer.Send SendAnswer.Closed)
reported base false (Answer.Send SendAnswer.Closed) = None
reported base true (Answer.Close (CloseAnswer.Shut total)) = Some (Answer.Close (CloseAnswer.Shut (base + total)))
reported base true (Answer.Close (CloseAnswer.Already total)) = Some (Answer.Close (CloseAnswer.Already (base + total)))
reported base false (Answer.Close answer) = None
reported base is_last (Answer.Take (TakeAnswer.Got item)) = Some (Answer.Take (TakeAnswer.Got (moved base item)))
reported base is_last (Answer.Take TakeAnswer.Empty) = Some (Answer.Take TakeAnswer.Empty)
reported base true (Answer.Take (TakeAnswer.Ended total)) = Some (Answer.Take (TakeAnswer.Ended (base + total)))
reported base false (Answer.Take (TakeAnswer.Ended total)) = None

-- a call is reported, with this answer, or stays within the row
abbrev pub add_call : Entry → Option Answer → List Entry → List Entry
add_call c None rest = rest
add_call c (Some a) rest = c ∷ rest

abbrev pub add_answer : Option Answer → List Answer → List Answer
add_answer None rest = rest
add_answer (Some a) rest = a ∷ rest

-- the calls of a side that were answered, as the row reports them
abbrev pub calls_in : (base : ℕ) → (is_last : Bool) → List Entry → List Answer → List Entry
calls_in base is_last [] answers = []
calls_in base is_last (c ∷ calls) [] = []
calls_in base is_last (c ∷ calls) (a ∷ answers) = add_call (moved_entry base c) (reported base is_last a)
    (calls_in base is_last calls answers)

abbrev pub answers_in : (base : ℕ) → (is_last : Bool) → List Entry → List Answer → List Answer
answers_in base is_last [] answers = []
answers_in base is_last (c ∷ calls) [] = []
answers_in base is_last (c ∷ calls) (a ∷ answers) = add_answer (reported base is_last a)
    (answers_in base is_last calls answers)

-- ---- a row: the histories of its queues, the last one apart

-- how many items these accepted
abbrev pub count_of : List Record → ℕ
count_of [] = 0
count_of (h ∷ early) = length (accepted h) + count_of early

module _ (side : Record → Side) where
  abbrev pub row_calls : (base : ℕ) → List Record → Record → List Entry
  row_calls base [] last = calls_in base true (side last).calls (side last).answers
  row_calls base (h ∷ early) last = calls_in base false (side h).calls (side h).answers ++ row_calls
      (base + length (accepted h)) early last

  abbrev pub row_answers : (base : ℕ) → List Record → Record → List Answer
  row_answers base [] last = answers_in base true (side last).calls (side last).answers
  row_answers base (h ∷ early) last = answers_in base false (side h).calls (side h).answers ++ row_answers
      (base + length (accepted h)) early last

-- the items of the row
abbrev pub row_items : (base : ℕ) → List Record → Record → List Item
row_items base [] last = map (moved base) (accepted last)
row_items base (h ∷ early) last = map (moved base) (accepted h) ++ row_items (base + length (accepted h)) early last

-- the history is legal, by a configuration of this number of groups
pub record IsLegalOf (groups : ℕ) (h : Record) : Type 0 where
  pub config : Config
  pub legal : Legal config h
  pub groups_are : config.groups ≡ groups

-- these histories are legal, and shut
abbrev pub AreLegalShut : List Record → Type 0
AreLegalShut [] = Unit {0}
AreLegalShut (h ∷ early) = ((cfg : Config) × Legal cfg h) × (is_shut h ≡ true) × AreLegalShut early

-- each queue but the last one was shut
abbrev pub AreShut : (groups : ℕ) → List Record → Type 0
AreShut groups [] = Unit {0}
AreShut groups (h ∷ early) = IsLegalOf groups h × (is_shut h ≡ true) × AreShut groups early

-- the history is legal, by a configuration that has this group
pub record HasGroup (g : ℕ) (h : Record) : Type 0 where
  pub config : Config
  pub legal : Legal config h
  pub has : g < config.groups

-- these histories have the group, and are shut
abbrev pub AreShutFor : (g : ℕ) → List Record → Type 0
AreShutFor g [] = Unit {0}
AreShutFor g (h ∷ early) = HasGroup g h × (is_shut h ≡ true) × AreShutFor g early

-- the group has made no call at these queues
abbrev pub IsSilent : (g : ℕ) → List Record → Record → Type 0
IsSilent g [] last = (of_group last g).answers ≡ []
IsSilent g (h ∷ early) last = ((of_group h g).answers ≡ []) × IsSilent g early last

-- The group goes from queue to queue: it was handed all of a queue before it has an answer of a later one.
abbrev pub GoesInOrder : (g : ℕ) → List Record → Record → Type 0
GoesInOrder g [] last = Unit {0}
GoesInOrder g (h ∷ early) last = ((length (handed h g) ≡ length (accepted h)) × GoesInOrder g early last) ⊎ IsSilent g
    early last

-- a row of histories, with this number of groups
pub record IsRow (groups : ℕ) (early : List Record) (last : Record) : Type 0 where
  pub shut : AreShut groups early
  pub last_legal : IsLegalOf groups last
  pub in_order : (g : ℕ) → g < groups → GoesInOrder g early last

-- the side of the senders, and that of a group
abbrev pub sends_of : Record → Side
sends_of h = h.sends

abbrev pub takes_of : ℕ → Record → Side
takes_of g h = of_group h g

-- The calls of a row that were answered have the answers of one sequential queue, whose items are those of all its
-- queues: of a life that isn't
-- over, and never full, since no Full and no Spent is reported.
pub record IsOneLegal (groups : ℕ) (wide : Config) (early : List Record) (last : Record) : Type 0 where
  pub sends : SendSideAnswers wide 0 false (row_calls sends_of 0 early last) (row_answers sends_of 0 early last)
  pub takes : (g : ℕ) → g < groups
      → TakeSideAnswers (row_items 0 early last) (is_shut last) 0 (row_calls (takes_of g) 0 early last)
      (row_answers (takes_of g) 0 early last)

-- The sends alone, whatever the groups did.
abbrev pub JoinedSendsAreLegal : Type 0
JoinedSendsAreLegal = (wide cfg : Config) (early : List Record) (last : Record) → AreLegalShut early → Legal cfg last
    → count_of early + length (accepted last) ≤ wide.life
    → SendSideAnswers wide 0 false (row_calls sends_of 0 early last) (row_answers sends_of 0 early last)

-- The takes of one group alone, whatever other groups each queue has.
abbrev pub JoinedTakesAreLegal : Type 0
JoinedTakesAreLegal = (g : ℕ) (early : List Record) (last : Record) → AreShutFor g early → HasGroup g last
    → GoesInOrder g early last
    → TakeSideAnswers (row_items 0 early last) (is_shut last) 0 (row_calls (takes_of g) 0 early last)
    (row_answers (takes_of g) 0 early last)
    × IsPrefix (handed_by (row_answers (takes_of g) 0 early last)) (row_items 0 early last)

abbrev pub JoinedIsLegal : Type 0
JoinedIsLegal = (groups : ℕ) (wide : Config) (early : List Record) (last : Record) → IsRow groups early last
    → count_of early + length (accepted last) ≤ wide.life → IsOneLegal groups wide early last

-- The items that a group was handed are a prefix of those that were accepted.
abbrev pub JoinedHandsInOrder : Type 0
JoinedHandsInOrder = (groups : ℕ) (early : List Record) (last : Record) → IsRow groups early last
    → (g : ℕ) → g < groups → IsPrefix (handed_by (row_answers (takes_of g) 0 early last)) (row_items 0 early last)

-- The items that the reported sends were accepted as are those of the queues, in the same order.
abbrev pub JoinedAccepts : Type 0
JoinedAccepts = (groups : ℕ) (early : List Record) (last : Record) → IsRow groups early last
    → accepted_by (row_calls sends_of 0 early last) (row_answers sends_of 0 early last) ≡ row_items 0 early last
