-- Each answer of a row belongs to one legal history, as far as its pass has seen it: the histories of its queues one
-- after another, of which each but the
-- last one is that of a note.
use Rattle.std.specs.Prelude.{◌≡◌, ℕ, zero, suc, ◌+◌, ◌≤◌, false, List, [], ◌∷◌, length}
use Rattle.cc_model.specs.Record.{Record}
use Rattle.cc_model.specs.Items.{IsPrefix, accepted, is_shut, handed_by}
use Rattle.cc_model.specs.Legal.{SendSideAnswers, TakeSideAnswers}
use Rattle.cc_joined.specs.Joined.{count_of, row_calls, row_answers, row_items, sends_of, takes_of}
use Rattle.cc_queue.specs.Names.{Config}
use Rattle.cc_queue.specs.Headline.{history}
use Rattle.cc_queue.specs.Noted.{noted_history}
use Rattle.cc_steps.specs.Noted.{Noted}
use Rattle.cc_switch.specs.Links.{done_by}
use Rattle.cc_switch.specs.Position.{RowWalk}
use Rattle.cc_switch.specs.declared.links.Link.{Link}

-- the histories of the first queues, by the notes of their closes
abbrev pub shut_records : List Link → ℕ → List Record
shut_records links zero = []
shut_records [] (suc k) = []
shut_records (l ∷ links) (suc k) = noted_history l.shut ∷ shut_records links k

-- by the notes of the receivers that found them ended
abbrev pub ended_records : List Noted → ℕ → List Record
ended_records ended zero = []
ended_records [] (suc k) = []
ended_records (n ∷ ended) (suc k) = noted_history n ∷ ended_records ended k

abbrev pub before_send : RowWalk → List Record
before_send w = shut_records w.spot.seen.links w.spot.number

abbrev pub before_take : RowWalk → List Record
before_take w = ended_records (done_by w.spot.seen.ended w.group) w.spot.number

-- The sends of the row have the answers of one queue that is never full, and its places are those of the row.
pub record SendsStand (w : RowWalk) : Type 0 where
  pub base : w.spot.base ≡ count_of (before_send w)
  pub legal : (wide : Config) → w.spot.base + length (accepted (history w.pass)) ≤ wide.life
      → SendSideAnswers wide 0 false (row_calls sends_of 0 (before_send w) (history w.pass))
      (row_answers sends_of 0 (before_send w) (history w.pass))

-- The takes of the row have the answers of one queue, and the items that were handed out are a prefix of those
-- accepted.
pub record TakesStand (w : RowWalk) : Type 0 where
  pub base : w.spot.base ≡ count_of (before_take w)
  pub legal : TakeSideAnswers (row_items 0 (before_take w) (history w.pass)) (is_shut (history w.pass)) 0
      (row_calls (takes_of w.group) 0 (before_take w) (history w.pass))
      (row_answers (takes_of w.group) 0 (before_take w) (history w.pass))
  pub fifo : IsPrefix (handed_by (row_answers (takes_of w.group) 0 (before_take w) (history w.pass)))
      (row_items 0 (before_take w) (history w.pass))
