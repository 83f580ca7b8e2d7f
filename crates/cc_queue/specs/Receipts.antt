-- All passes of a queue, and the receipts of their calls.
use Rattle.std.specs.Prelude.{◌≡◌, ℕ, ◌+◌, ◌*◌, ◌-◌, ◌<◌, List, [], ◌∷◌, ◌++◌, length, map, take, drop, slice_index_or, slice_range, Option, Some, None}
use Rattle.std.specs.List.{All, AllByRecursion, Any}
use Rattle.cc_model.specs.Record.{Record, empty, of_group}
use Rattle.cc_model.specs.Items.{HasAnswer, accepted_item, calls_of, calls_made_by}
use Rattle.cc_queue.specs.Names.{Entry, Answer, Phase, SendReceipt, TakeReceipt, Config}
use Rattle.cc_audit.specs.Receipts.{send_receipt, take_receipt, total_of}
use Rattle.cc_runs.specs.Words.{groups}
use Rattle.cc_steps.specs.Topic.{Topic}
use Rattle.cc_steps.specs.Walk.{Walk, IsOf}
use Rattle.cc_queue.specs.Headline.{StandsInOne, name, history}

-- these are the passes of a queue from the first on, this many, in the order of its row
pub record AreInRow (z : Topic) (first count : ℕ) (ws : List Walk) : Type 0 where
  pub count_is : length ws ≡ count
  pub are : All (IsOf z) ws
  pub numbered : (k : ℕ) (d : Walk) → k < length ws → (slice_index_or ws k d).number ≡ first + k

-- a pass at the end: it is live and has no call, or it was given up, and may have left a call waiting
pub data Last : Type 0 where
  Live : Walk → Last
  Gone : Walk → Last

-- the pass
abbrev pub walk_at : Last → Walk
walk_at (Live w) = w
walk_at (Gone w) = w

-- all passes of a queue at the end, in the order of its row
pub record Row : Type 0 where
  pub senders : List Last
  pub receivers : List Last

-- it is one of the live passes of its side, or one of those that were given up
abbrev pub IsOneOf : (live given_up : List Walk) → Last → Type 0
IsOneOf live given_up (Live w) = Any (λ x. x ≡ w) live
IsOneOf live given_up (Gone w) = Any (λ x. x ≡ w) given_up

-- the row is all passes of a queue, each of which is live or was given up
pub record AreAll (z : Topic) (row : Row) (senders receivers given_up : List Walk) : Type 0 where
  pub senders_are : AreInRow z 0 z.setting.config.senders (map walk_at row.senders)
  pub receivers_are : AreInRow z z.setting.config.senders (groups z.setting.config * z.setting.config.receivers) (map walk_at row.receivers)
  pub senders_from : All (IsOneOf senders given_up) row.senders
  pub receivers_from : All (IsOneOf receivers given_up) row.receivers

-- those of a group, from 1, among all receivers
abbrev pub in_group : {X : Type 0} → Config → (group : ℕ) → List X → List X
in_group c g receivers = slice_range receivers ((g - 1) * c.receivers) (g * c.receivers)

-- the history that the first of them has seen
abbrev pub seen_by : List Walk → Record
seen_by [] = empty 0
seen_by (w ∷ ws) = history w

-- the receipt of a send that was accepted
abbrev pub sent : Entry × Option Answer → List SendReceipt
sent (e, Some a) = map send_receipt (accepted_item e a)
sent (e, None) = []

-- the receipt of a take that got an item
abbrev pub got : Entry × Option Answer → List TakeReceipt
got (e, Some a) = take_receipt e.pass a
got (e, None) = []

-- the receipts of such calls, one after another
abbrev pub receipts_in : {X : Type 0} → (Entry × Option Answer → List X) → List (Entry × Option Answer) → List X
receipts_in receipts [] = []
receipts_in receipts (z ∷ zs) = receipts z ++ receipts_in receipts zs

-- the receipts of these passes, each of all its calls in the history that it has seen
abbrev pub receipts_by : {X : Type 0} → (Entry × Option Answer → List X) → List Walk → List X
receipts_by receipts [] = []
receipts_by receipts (w ∷ ws) = receipts_in receipts (calls_of (name w) (history w)) ++ receipts_by receipts ws

-- of the calls of a pass that was abandoned here: those whose answers it got, which are all but one that it left waiting
abbrev pub told_of : Phase → List (Entry × Option Answer) → List (Entry × Option Answer)
told_of Phase.Idle calls = calls
told_of _ calls = take (length calls - 1) calls

-- and that one, which may have its answer meanwhile
abbrev pub left_of : Phase → List (Entry × Option Answer) → List (Entry × Option Answer)
left_of Phase.Idle calls = []
left_of _ calls = drop (length calls - 1) calls

-- the same of a pass at the end, in a history: a live one got all its answers
abbrev pub told_in : Record → Last → List (Entry × Option Answer)
told_in h (Live w) = calls_of (name w) h
told_in h (Gone w) = told_of w.stand.phase (calls_of (name w) h)

abbrev pub left_in : Record → Last → List (Entry × Option Answer)
left_in h (Live w) = []
left_in h (Gone w) = left_of w.stand.phase (calls_of (name w) h)

-- the receipts that these passes hold: of the calls whose answers they got
abbrev pub receipts_told : {X : Type 0} → (Entry × Option Answer → List X) → List Last → List X
receipts_told receipts [] = []
receipts_told receipts (p ∷ ps) = receipts_in receipts (told_in (history (walk_at p)) p) ++ receipts_told receipts ps

-- those that nobody holds: of the calls that were left waiting, and have their answers in the history
abbrev pub receipts_left : {X : Type 0} → (Entry × Option Answer → List X) → List Last → List X
receipts_left receipts [] = []
receipts_left receipts (p ∷ ps) = receipts_in receipts (left_in (history (walk_at p)) p) ++ receipts_left receipts ps

-- the total of the close that returned Shut in the history, or none, as if nobody got it
abbrev pub IsTotal : Record → Option ℕ → Type 0
IsTotal h None = Unit {0}
IsTotal h (Some total) = total_of h ≡ Some total

-- The history has of a pass exactly the calls that it made, and each whose answer it got has its answer.
pub record HasJustItsCalls (h : Record) (p : Last) : Type 0 where
  pub made : calls_made_by (name (walk_at p)) h ≡ (walk_at p).made
  pub answered : AllByRecursion HasAnswer (told_in h p)

-- The history is that of these passes: each call is of one of them, and of each of them it has exactly those that it made.
-- Each has its answer, but for those that were left waiting, of each abandoned pass at most the last one.
pub record HasJustCallsOf (row : Row) (h : Record) : Type 0 where
  pub sends : All (λ e. Any (λ w. e.pass ≡ name w) (map walk_at row.senders)) h.sends.calls
  pub takes : (g : ℕ) → All (λ e. Any (λ w. e.pass ≡ name w) (map walk_at row.receivers)) (of_group h g).calls
  pub of_senders : All (HasJustItsCalls h) row.senders
  pub of_receivers : All (HasJustItsCalls h) row.receivers

-- A pass was abandoned here: all that it has seen is one history, in which each call whose answer it got has its answer.
pub record HasEnded (w : Walk) : Type 0 where
  pub stands : StandsInOne w [] w
  pub answered : AllByRecursion HasAnswer (told_of w.stand.phase (calls_of (name w) (history w)))
