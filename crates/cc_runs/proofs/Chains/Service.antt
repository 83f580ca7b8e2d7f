-- A step of a service: it goes on, or decides the answer.
use Rattle.std.proofs.Common.{◌≡◌, ℕ, zero, suc, ◌+◌, ◌≤◌, Bool, true, false, ◌==◌, cond, refl, arith, Option, Some, None}
use Rattle.cc_runs.specs.Names.{Entry, Answer, SendAnswer, CloseAnswer, TakeAnswer, Setting, Served, Chain, NodeField, Word, Job, Request, Parcel, Counting, Sending, Taking, Phase}
use Rattle.cc_runs.specs.Codes.{request_in, further_words, word, with_asked}
use Rattle.cc_runs.specs.Words.{groups}
use Rattle.cc_runs.specs.State.{stored}
use Rattle.cc_runs.specs.CountLines as count_side
use Rattle.cc_runs.specs.SendLines as send_side
use Rattle.cc_runs.specs.TakeLines as take_side
use Rattle.cc_runs.specs.SendLines.{after}
use Rattle.cc_runs.specs.ServiceLine.{Next, On, Decides, phase_of, answer_of}
use Rattle.cc_runs.proofs.Chains.View.{post_of, serving}
use Rattle.cc_runs.proofs.Bodies.{few_further}
use Rattle.cc_runs.proofs.ReadWords.{next_word, behind_word}
use Rattle.cc_runs.proofs.Chains.Registers.{HasService, HasAsked, IsAnswer}

-- the step from here to there, of the service of call e, whose answer, once decided, is a
pub data Outcome (served : Served) (x : Chain) (job : Job) (e : Entry) (here there : Phase) (decided : Option Answer) : Type 0 where
  quiet : decided ≡ None → ((own : ℕ) → post_of x own there ≡ post_of x own here) → ((a : Answer) → HasService served x e a here → HasService served x e a there) → Outcome served x job e here there decided
  decides : (a : Answer) → decided ≡ Some a → ((own : ℕ) → post_of x own here ≡ serving own job 1 0) → ((own : ℕ) → post_of x own there ≡ serving own job 2 0) → IsAnswer served x a → HasService served x e a there → Outcome served x job e here there decided

-- the word of a request that a service reads
abbrev pub FindsRequest : Entry → Sending → ℕ → Type 0
FindsRequest e Sending.ReadTag found = found ≡ (request_in e).tag
FindsRequest e (Sending.ReadBody request i) found = found ≡ word (request_in e).body i
FindsRequest e _ found = Unit {0}

module _ (c : Setting) (job : Job) (e : Entry) where
  abbrev Sends : Sending → Next Sending → Type 0
  Sends service next = Outcome Served.List Chain.Send job e (Phase.Sending job service) (phase_of send_side.in_service job next) (answer_of next)

  shut_closed : (request : Request) (b : Bool) → Sends (Sending.ReadShut request) (cond b (On Sending.ReadTotal) (Decides (Answer.Send SendAnswer.Closed)))
  shut_closed request true = quiet refl (λ own. refl) (λ a r. tt)
  shut_closed request false = decides (Answer.Send SendAnswer.Closed) refl (λ own. refl) (λ own. refl) tt refl

  shut_read : (request : Request) (found : ℕ) → Sends (Sending.ReadShut request) (send_side.by_shut request found)
  shut_read request zero = quiet refl (λ own. refl) (λ a r. r)
  shut_read request (suc found) = shut_closed request (request.tag == 0)

  count_read : (request : Request) (count : ℕ) (life b : Bool) →
      Sends (Sending.ReadCount request) (cond b (On (Sending.ReadLastToClose count)) (cond life (Decides (Answer.Send SendAnswer.Spent)) (On (Sending.ReadCursor record { place = count; tag = request.tag; body = request.body }))))
  count_read request count life true = quiet refl (λ own. refl) (λ a r. tt)
  count_read request count true false = decides (Answer.Send SendAnswer.Spent) refl (λ own. refl) (λ own. refl) tt refl
  count_read request count false false = quiet refl (λ own. refl) (λ a r. r)

  passed_read : (parcel : Parcel) (at reads : ℕ) (last b : Bool) →
      Sends (Sending.ReadPassed parcel at reads) (cond b (On (Sending.ResetPassed parcel at)) (cond last (Decides (Answer.Send SendAnswer.Full)) (On (Sending.ReadPassed parcel (after c.config at) (reads + 1)))))
  passed_read parcel at reads last true = quiet refl (λ own. refl) (λ a r. r)
  passed_read parcel at reads true false = decides (Answer.Send SendAnswer.Full) refl (λ own. refl) (λ own. refl) tt refl
  passed_read parcel at reads false false = quiet refl (λ own. refl) (λ a r. r)

  -- the first words of a request, and one more
  asked_more : (request : Request) (i found : ℕ) → found ≡ word (request_in e).body i → HasAsked e request.tag request.body i × (i ≤ further_words request.tag) → HasAsked e request.tag (with_asked request i found).body (i + 1)
  asked_more request i found f r = (r.0.0, λ j low. next_word request.body (word (request_in e).body) i found (omega (arith, r.1, few_further request.tag)) f r.0.1 j (omega arith))

  pub sends : (service : Sending) (found : ℕ) → FindsRequest e service found → Sends service (send_side.line c.config 0 service found).next
  sends Sending.ReadTag found f = quiet refl (λ own. refl) (λ a r. ((f, λ j low. absurd (omega arith)), omega arith))
  sends (Sending.ReadBody request i) found f =
      behind_word (λ (z : Sending). Sends (Sending.ReadBody request i) (On z)) (further_words request.tag) i _ _
      (λ more. quiet refl (λ own. refl) (λ a r. (asked_more request i found f r, omega (arith, more))))
      (λ last. quiet refl (λ own. refl) (λ a r. (r.0.0, λ j low. (asked_more request i found f r).1 j (omega (arith, last)))))
  sends (Sending.ReadShut request) found f = shut_read request found
  sends Sending.ReadTotal found f = decides (Answer.Close (CloseAnswer.Already found)) refl (λ own. refl) (λ own. refl) tt refl
  sends (Sending.ReadCount request) found f = count_read request found (found == c.config.life) (request.tag == 0)
  sends (Sending.ReadLastToClose total) found f = quiet refl (λ own. refl) (λ a r. tt)
  sends (Sending.LinkMark total last) found f = decides (Answer.Close (CloseAnswer.Shut total)) refl (λ own. refl) (λ own. refl) tt refl
  sends (Sending.ReadPassed parcel at reads) found f = passed_read parcel at reads (reads == c.config.capacity + 1) (found == groups c.config)
  sends (Sending.WriteItemTag parcel at) found f = quiet refl (λ own. refl) (λ a r. (r, omega arith))
  sends (Sending.WriteItemBody parcel at i) found f =
      behind_word (λ (z : Sending). Sends (Sending.WriteItemBody parcel at i) (On z)) (further_words parcel.tag) i _ _
      (λ more. quiet refl (λ own. refl) (λ a r. (r.0, omega (arith, more)))) (λ last. quiet refl (λ own. refl) (λ a r. tt))
  sends (Sending.ReadLast place at) found f = quiet refl (λ own. refl) (λ a r. tt)
  sends (Sending.LinkItem place at last) found f = decides (Answer.Send (SendAnswer.Accepted place)) refl (λ own. refl) (λ own. refl) tt refl
  sends _ found f = quiet refl (λ own. refl) (λ a r. r)

  abbrev Takes : ℕ → Taking → ℕ → Type 0
  Takes g service found = Outcome Served.List (Chain.Take g) job e (Phase.Taking job service) (take_side.goes job service found) (take_side.decides service found)

  pub takes : (g : ℕ) (service : Taking) (found : ℕ) → Takes g service found
  takes g (Taking.ReadDummyNext dummy taken) zero = decides (Answer.Take TakeAnswer.Empty) refl (λ own. refl) (λ own. refl) tt refl
  takes g (Taking.ReadItemTag dummy taken at) zero = decides (Answer.Take (TakeAnswer.Ended taken)) refl (λ own. refl) (λ own. refl) tt refl
  takes g (Taking.ReadItemBody dummy at p i) found =
      behind_word (λ (z : Taking). Outcome Served.List (Chain.Take g) job e (Phase.Taking job (Taking.ReadItemBody dummy at p i)) (Phase.Taking job z) None) (further_words p.tag) i _ _
      (λ more. quiet refl (λ own. refl) (λ a r. tt)) (λ last. quiet refl (λ own. refl) (λ a r. tt))
  takes g (Taking.AddPassed dummy parcel) found = decides _ refl (λ own. refl) (λ own. refl) tt refl
  takes g _ _ = quiet refl (λ own. refl) (λ a r. tt)

  pub counts : (service : Counting) (found : ℕ) → Outcome Served.Counter Chain.Send job e (Phase.Counting job service) (count_side.goes job service found) (count_side.decides service found)
  counts Counting.ReadTag found = quiet refl (λ own. refl) (λ a r. (tt, omega arith))
  counts (Counting.ReadBody tag i) found =
      behind_word (λ (z : Counting). Outcome Served.Counter Chain.Send job e (Phase.Counting job (Counting.ReadBody tag i)) (Phase.Counting job z) None) (further_words tag) i _ _
      (λ more. quiet refl (λ own. refl) (λ a r. (tt, omega (arith, more)))) (λ last. quiet refl (λ own. refl) (λ a r. (tt, tt)))
  counts Counting.ReadCount found = quiet refl (λ own. refl) (λ a r. (tt, tt))
  counts (Counting.WriteCount count) found = decides (Answer.Send (SendAnswer.Accepted count)) refl (λ own. refl) (λ own. refl) tt refl

-- a service changes no word of a chain
module _ (c : Setting) (mem : Word → ℕ) where
  pub send_tail : (x : Chain) (at : ℕ) (service : Sending) → stored mem (send_side.operation c.config at service) (Word.Tail x) ≡ mem (Word.Tail x)
  send_tail x at service = grind arith

  pub send_words : (x : Chain) (at i : ℕ) (f : NodeField) (service : Sending) → stored mem (send_side.operation c.config at service) (Word.Node x i f) ≡ mem (Word.Node x i f)
  send_words x at i f service = grind arith

  pub take_tail : (x : Chain) (g : ℕ) (service : Taking) → stored mem (take_side.operation g service) (Word.Tail x) ≡ mem (Word.Tail x)
  take_tail x g service = grind arith

  pub take_words : (x : Chain) (g i : ℕ) (f : NodeField) (service : Taking) → stored mem (take_side.operation g service) (Word.Node x i f) ≡ mem (Word.Node x i f)
  take_words x g i f service = grind arith

  pub count_tail : (x : Chain) (at : ℕ) (service : Counting) → stored mem (count_side.operation at service) (Word.Tail x) ≡ mem (Word.Tail x)
  count_tail x at service = grind arith

  pub count_words : (x : Chain) (at i : ℕ) (f : NodeField) (service : Counting) → stored mem (count_side.operation at service) (Word.Node x i f) ≡ mem (Word.Node x i f)
  count_words x at i f service = grind arith
