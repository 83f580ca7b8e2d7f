-- A small run of a row: two queues of one place. A sender fills the first, closes it, and goes on with the second; a receiver follows.
use Rattle.std.specs.Prelude.{◌≡◌, ℕ, zero, suc, List, [], ◌∷◌}
use Rattle.cc_model.specs.Body.{body_of}
use Rattle.cc_runs.specs.OnChain.{answers_on}
use Rattle.cc_runs.specs.Run.{history_of}
use Rattle.cc_runs.specs.SmallWaits.{small_list}
use Rattle.cc_row.specs.Names.{Call, Item, Answer, SendAnswer, CloseAnswer, TakeAnswer, Chain, Setting, Move}
use Rattle.cc_row.specs.OneQueue.{own_name}
use Rattle.cc_row.specs.Runs.{RowMove, moves_at, IsRowRun}

-- two senders and a receiver at each queue, with room for one item
abbrev pub queues : ℕ → Setting
queues q = small_list

-- this many steps of a pass at a queue
abbrev pub steps : (queue pass count : ℕ) → List RowMove → List RowMove
steps q p zero earlier = earlier
steps q p (suc n) earlier = record { at = q; move = Move.Step p } ∷ steps q p n earlier

-- a pass makes a call at a queue, in this many steps, and takes its answer
abbrev pub makes : (queue pass : ℕ) → Call → (count : ℕ) → List RowMove → List RowMove
makes q p call n earlier = record { at = q; move = Move.Take p } ∷ steps q p n (record { at = q; move = Move.Begin p call 0 } ∷ earlier)

-- pass 0 is a sender, and pass 2 the receiver
abbrev pub sends : (queue count : ℕ) → List RowMove → List RowMove
sends q n earlier = makes q 0 (Call.Send (body_of (7 ∷ []))) n earlier

abbrev pub takes : (queue count : ℕ) → List RowMove → List RowMove
takes q n earlier = makes q 2 Call.Take n earlier

-- The sender fills the first queue, finds it full, closes it, and sends to the second one, before the receiver has taken anything. The newest
-- call comes first.
abbrev pub small_run : List RowMove
small_run = takes 1 22 (takes 0 14 (takes 0 22 (sends 1 27 (makes 0 0 Call.Close 20 (sends 0 19 (sends 0 27 []))))))

-- what the calls of a chain at a queue are answered in it
abbrev pub answers : (queue : ℕ) → Chain → List Answer
answers q x = answers_on x (history_of (queues q) (moves_at q small_run))

-- what the sender sent with its send of this number
abbrev pub sent : (number : ℕ) → Item
sent number = record { place = 0; sender = 1; number = number; body = body_of (7 ∷ []) }

pub record SmallRun : Type 0 where
  pub run : IsRowRun queues own_name 1 small_run
  pub first_sends : answers 0 Chain.Send ≡ Answer.Send (SendAnswer.Accepted 0) ∷ Answer.Send SendAnswer.Full ∷ Answer.Close (CloseAnswer.Shut 1) ∷ []
  pub second_sends : answers 1 Chain.Send ≡ Answer.Send (SendAnswer.Accepted 0) ∷ []
  pub first_takes : answers 0 (Chain.Take 0) ≡ Answer.Take (TakeAnswer.Got (sent 1)) ∷ Answer.Take (TakeAnswer.Ended 1) ∷ []
  pub second_takes : answers 1 (Chain.Take 0) ≡ Answer.Take (TakeAnswer.Got (sent 1)) ∷ []
