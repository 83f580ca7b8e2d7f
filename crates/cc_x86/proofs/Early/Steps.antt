-- Which words the steps of a pass touch, and where they lead.
use Rattle.cc_x86.proofs.Stores.{by_bool}
use Rattle.std.proofs.lemmas.Bool.{false≢true}
use Rattle.std.proofs.Common.{◌≡◌, ◌⊎◌, inl, inr, ℕ, zero, suc, ◌+◌, ◌-◌, cond, ◌==◌, refl, arith, Bool, ap}
use Rattle.std.specs.Prelude.{nat_lt}
use Rattle.cc_x86.specs.Program.{written}
use Rattle.cc_x86.specs.Names.{Setting, Served, Answer, TakeAnswer, NodeField, ItemField, Round, Job, Chain, Word, Phase, Counting, Sending, Taking}
use Rattle.cc_x86.specs.Threads.{as_thread}
use Rattle.cc_x86.proofs.Threads.{IsBusy}
use Rattle.cc_x86.proofs.Early.Phases.{IsStore, IsLoad, IsSwap, IsHand, IsPast, IsShut, either_way, stand}
use Rattle.cc_runs.specs.Words.{same}
use Rattle.cc_runs.specs.State.{Operation, word_of, Load, Store, Swap, Add}
use Rattle.cc_runs.specs.Lines.{operation, goes, group_of, serves, after_answer, after_next, after_ret}
use Rattle.cc_runs.specs.Codes.{further_words, tag_of, code_of, value_of, with_read, item_in}
use Rattle.cc_runs.specs.SendLines as send_side
use Rattle.cc_runs.specs.TakeLines as take_side
use Rattle.cc_runs.specs.CountLines as count_side
use Rattle.cc_runs.specs.ServiceLine.{Next, phase_of}
use Rattle.cc_runs.specs.Step.{advanced}
use Rattle.cc_runs.specs.MachineLaws.{HoldsAt}
use Rattle.cc_runs.specs.ChainLaws.{IsCombining}
use Rattle.cc_runs.specs.NodeLaws.{IsAsking, IsAnswering, IsSending}
use Rattle.cc_runs.proofs.Words.{same_is}

pub touches_item : (c : Setting) (x : Chain) (own : ℕ) (at : Phase) (i : ℕ) (f : ItemField) → word_of (operation c x own at) ≡ Word.Item i f → IsSending at ⊎ HoldsAt at i
touches_item c x own at i f e = grind arith

send_tail : (c : Setting) (k : ℕ) (service : Sending) (y : Chain) → word_of (send_side.operation c.config k service) ≡ Word.Tail y → ⊥
send_tail c k service y e = grind arith

take_tail : (g : ℕ) (service : Taking) (y : Chain) → word_of (take_side.operation g service) ≡ Word.Tail y → ⊥
take_tail g service y e = grind arith

count_tail : (k : ℕ) (service : Counting) (y : Chain) → word_of (count_side.operation k service) ≡ Word.Tail y → ⊥
count_tail k service y e = grind arith

pub unwritten : (o : Operation) (w : Word) (words : Word → ℕ) → (word_of o ≡ w → ⊥) → written same words (as_thread o) w ≡ words w
unwritten (Load u) w words away = refl
unwritten (Store u v) w words away = by_bool (cond (same u w) v (words w) ≡ words w) (same u w) (λ it. absurd (away (same_is u w it))) (λ it. ap (λ (b : Bool). cond b v (words w)) it)
unwritten (Swap u v) w words away = by_bool (cond (same u w) v (words w) ≡ words w) (same u w) (λ it. absurd (away (same_is u w it))) (λ it. ap (λ (b : Bool). cond b v (words w)) it)
unwritten (Add u v) w words away =
    by_bool (cond (same u w) (words u + v) (words w) ≡ words w) (same u w) (λ it. absurd (away (same_is u w it))) (λ it. ap (λ (b : Bool). cond b (words u + v) (words w)) it)

module _ (c : Setting) (x : Chain) (begun own : ℕ) where
  -- while it asks, and doesn't read its state, it goes on asking
  pub asks_stays : (at : Phase) (found : ℕ) → IsAsking at → (at ≡ Phase.ReadState → ⊥) → IsAsking (advanced c x (stand begun own at) found).phase × ((advanced c x (stand begun own at) found).node ≡ own)
  asks_stays (Phase.WriteBody put request i) found a ne = (either_way IsAsking (nat_lt i (further_words request.tag)) (Phase.WriteBody put request (i + 1)) (Phase.Link put) tt tt, refl)
  asks_stays at found a ne = grind arith

  -- whose node changes exchanges, and asks then
  pub swaps_or_keeps : (at : Phase) (found : ℕ) → (IsSwap (operation c x own at) × (word_of (operation c x own at) ≡ Word.Tail x) × IsAsking (advanced c x (stand begun own at) found).phase × ((advanced c x (stand begun own at) found).node ≡ found - 1))
      ⊎ (((advanced c x (stand begun own at) found).node ≡ own) × ((y : Chain) → word_of (operation c x own at) ≡ Word.Tail y → IsBusy at → ⊥))
  swaps_or_keeps (Phase.Exchange call) found = inl (tt, refl, entry x own, refl)
    where
      entry : (x : Chain) (own : ℕ) → IsAsking (goes c x own (Phase.Exchange call) found)
      entry x own = grind arith
  swaps_or_keeps (Phase.Counting job service) found = inr (refl, λ y e a. count_tail job.round.at service y e)
  swaps_or_keeps (Phase.Sending job service) found = inr (refl, λ y e a. send_tail c job.round.at service y e)
  swaps_or_keeps (Phase.Taking job service) found = inr (refl, λ y e a. take_tail (group_of x) service y e)
  swaps_or_keeps at found = grind arith

  ret_combines : (x : Chain) (found : ℕ) → IsCombining (after_ret c.served x found) → ⊥
  ret_combines Chain.Send found a = false≢true a
  ret_combines (Chain.Take g) found a = either_way (λ (z : Phase). IsCombining z → ⊥) (code_of found == 1) (Phase.ReadAnswerTag (value_of found)) (cond (code_of found == 2) (Phase.Finished (Answer.Take TakeAnswer.Empty)) (Phase.Finished (Answer.Take (TakeAnswer.Ended (value_of found)))))
      false≢true (either_way (λ (z : Phase). IsCombining z → ⊥) (code_of found == 2) (Phase.Finished (Answer.Take TakeAnswer.Empty)) (Phase.Finished (Answer.Take (TakeAnswer.Ended (value_of found)))) false≢true false≢true) a

  -- who comes to combine has read 0
  pub comes : (at : Phase) (found : ℕ) → IsBusy at → IsCombining (advanced c x (stand begun own at) found).phase → IsCombining at ⊎ ((at ≡ Phase.ReadState) × (found ≡ 0))
  comes (Phase.Exchange call) found busy a = absurd (entry x own a)
    where
      entry : (x : Chain) (own : ℕ) → IsCombining (goes c x own (Phase.Exchange call) found) → ⊥
      entry x own a = grind arith
  comes (Phase.WriteBody put request i) found busy a = absurd (either_way (λ (z : Phase). IsCombining z → ⊥) (nat_lt i (further_words request.tag)) (Phase.WriteBody put request (i + 1)) (Phase.Link put) false≢true false≢true a)
  comes Phase.ReadAnswer found busy a = absurd (ret_combines x found a)
  comes (Phase.ReadAnswerBody p i) found busy a =
      absurd (either_way (λ (z : Phase). IsCombining z → ⊥) (nat_lt i (further_words p.tag)) (Phase.ReadAnswerBody (with_read p i found) (i + 1)) (Phase.Finished (Answer.Take (TakeAnswer.Got (item_in (with_read p i found))))) false≢true false≢true a)
  comes at found busy a = grind arith

  ret_past : (x : Chain) (found : ℕ) → IsPast (after_ret c.served x found)
  ret_past Chain.Send found = tt
  ret_past (Chain.Take g) found = either_way IsPast (code_of found == 1) (Phase.ReadAnswerTag (value_of found)) (cond (code_of found == 2) (Phase.Finished (Answer.Take TakeAnswer.Empty)) (Phase.Finished (Answer.Take (TakeAnswer.Ended (value_of found)))))
      tt (either_way IsPast (code_of found == 2) (Phase.Finished (Answer.Take TakeAnswer.Empty)) (Phase.Finished (Answer.Take (TakeAnswer.Ended (value_of found)))) tt tt)

  pub past_looks : (at : Phase) (found : ℕ) → IsPast at → IsBusy at → IsLoad (operation c x own at) → IsPast (advanced c x (stand begun own at) found).phase
  past_looks at found a busy l = grind (arith, ret_past x found, either_way IsPast, nat_lt, further_words)

  pub past_stores : (at : Phase) → IsPast at → IsStore (operation c x own at) → IsShut x (advanced c x (stand begun own at) 0).phase
  past_stores at a st = grind arith

  pub asks_state : (at : Phase) (y : Chain) (i : ℕ) → IsAsking at → word_of (operation c x own at) ≡ Word.Node y i NodeField.State → at ≡ Phase.ReadState
  asks_state at y i a e = grind arith

  -- a combiner that stores into a node answers its request, or hands over there
  pub nodes_stored : (at : Phase) (y : Chain) (n : ℕ) (f : NodeField) → IsCombining at → IsStore (operation c x own at) → word_of (operation c x own at) ≡ Word.Node y n f → IsAnswering at n ⊎ (at ≡ Phase.HandOver n)
  nodes_stored at y n f a st e = grind arith

  service_combines : {S : Type 0} (in_service : Job → S → Phase) (job : Job) (n : Next S) → ((s : S) → IsCombining (in_service job s)) → IsCombining (phase_of in_service job n)
  service_combines in_service job n all = grind arith

  next_combines : (round : Round) (found : ℕ) → IsCombining (after_next c.served x round found)
  next_combines round zero = refl
  next_combines round (suc n) = serves_combine c.served x
    where
      serves_combine : (what : Served) (y : Chain) → IsCombining (serves what y record { round = round; next = n })
      serves_combine what y = grind arith

  answer_combines : (job : Job) (told : Answer) → IsCombining (after_answer job told)
  answer_combines job told = grind arith

  -- a combiner combines until it hands over
  pub combines_on : (at : Phase) (found : ℕ) → IsCombining at → (IsHand at → ⊥) → IsCombining (advanced c x (stand begun own at) found).phase
  combines_on (Phase.ReadNext round) found a hand = next_combines round found
  combines_on (Phase.Counting job service) found a hand = service_combines count_side.in_service job (count_side.line 0 service found).next (λ s. refl)
  combines_on (Phase.Sending job service) found a hand = service_combines send_side.in_service job (send_side.line c.config 0 service found).next (λ s. refl)
  combines_on (Phase.Taking job service) found a hand = service_combines take_side.in_service job (take_side.line 0 service found).next (λ s. refl)
  combines_on (Phase.WriteAnswer job told) found a hand = answer_combines job told
  combines_on (Phase.WriteAnswerTag job item) found a hand = refl
  combines_on (Phase.WriteAnswerBody job item i) found a hand = either_way IsCombining (nat_lt i (further_words (tag_of item))) (Phase.WriteAnswerBody job item (i + 1)) (Phase.MarkDone job) refl refl
  combines_on (Phase.MarkDone job) found a hand =
      either_way IsCombining (job.round.served + 1 == c.config.bound) (Phase.HandOver job.next) (Phase.ReadNext record { at = job.next; served = job.round.served + 1 }) refl refl
  combines_on (Phase.HandOver at) found a hand = absurd (hand tt)
  combines_on _ found a hand = absurd (false≢true a)

  -- a store and a load leave a pass its node
  pub node_stays : (at : Phase) (found : ℕ) → (IsSwap (operation c x own at) → ⊥) → (advanced c x (stand begun own at) found).node ≡ own
  node_stays at found no_swap = grind arith
