-- Each step of a pass that is in its call leaves it fewer steps, but for the read of a state that is still 1.
use Rattle.std.proofs.Common.{◌≡◌, ◌≢◌, ◌⊎◌, ℕ, suc, ◌+◌, ◌-◌, ◌*◌, ◌<◌, ◌≤◌, Bool, true, false, ◌==◌, cond, refl, ap, sym, ◌∙◌, arith}
use Rattle.std.proofs.lemmas.Bool.{eqb-false}
use Rattle.std.proofs.Math.Nat.{mul-le-mul_right}
use Rattle.cc_runs.specs.Names.{Config, Answer, SendAnswer, TakeAnswer, Setting, Served, Chain, Round, Job, Request, Parcel, Counting, Sending, Taking, Phase}
use Rattle.cc_runs.specs.Codes.{further_words, tag_of, code_of, value_of}
use Rattle.cc_runs.specs.Words.{groups}
use Rattle.cc_runs.specs.Lines.{goes, after_state, after_next, after_answer, after_ret}
use Rattle.cc_runs.specs.ServiceLine.{On, Decides, phase_of}
use Rattle.cc_runs.specs.CountLines as count_side
use Rattle.cc_runs.specs.SendLines as send_side
use Rattle.cc_runs.specs.SendLines.{after}
use Rattle.cc_runs.specs.TakeLines as take_side
use Rattle.cc_runs.specs.ChainLaws.{served_by}
use Rattle.cc_runs.specs.MachineLaws.{scan_reads}
use Rattle.cc_runs.specs.Turns.{is_in}
use Rattle.cc_runs.specs.Ahead.{service, entering_left, counting_left, sending_left, taking_left, writing_left}
use Rattle.cc_runs.proofs.Bodies.{few_further}
use Rattle.cc_runs.proofs.ReadWords.{behind_word}

-- a combiner's steps for all the calls that it may serve after this many
abbrev pub to_serve : Config → Chain → ℕ → ℕ
to_serve c x served = (c.bound - served) * service c x

-- a combiner's steps after the service of one call: it serves others, hands over, and reads its own answer
abbrev after_job : Config → Chain → Job → ℕ
after_job c x job = to_serve c x (job.round.served + 1) + 8

-- the steps that a pass in its call has still to do, at most, but for reads of a state that is still 1
abbrev pub steps_left : Config → Chain → Phase → ℕ
steps_left c x (Phase.WriteTag put request) = to_serve c x 0 + 15
steps_left c x (Phase.WriteBody put request i) = to_serve c x 0 + 11 + (3 - i)
steps_left c x (Phase.Link put) = to_serve c x 0 + 10
steps_left c x Phase.ReadState = to_serve c x 0 + 9
steps_left c x (Phase.ReadNext round) = to_serve c x round.served + 8
steps_left c x (Phase.Counting job at) = after_job c x job + 2 + counting_left at
steps_left c x (Phase.Sending job at) = after_job c x job + 2 + sending_left c at
steps_left c x (Phase.Taking job at) = after_job c x job + 7 + taking_left at
steps_left c x (Phase.WriteAnswer job told) = after_job c x job + writing_left told
steps_left c x (Phase.WriteAnswerTag job item) = after_job c x job + 6
steps_left c x (Phase.WriteAnswerBody job item i) = after_job c x job + 2 + (3 - i)
steps_left c x (Phase.MarkDone job) = after_job c x job + 1
steps_left c x (Phase.HandOver at) = 7
steps_left c x Phase.ReadAnswer = 6
steps_left c x (Phase.ReadAnswerTag at) = 5
steps_left c x (Phase.ReadAnswerBody p i) = 1 + (3 - i)
steps_left c x _ = 0

once_more : (calls cost : ℕ) → (calls + 1) * cost ≡ calls * cost + cost
once_more calls cost = omega arith

-- one call less is left to be served
pub one_less : (c : Config) (x : Chain) (served : ℕ) → served < c.bound → to_serve c x served ≡ to_serve c x (served + 1) + service c x
one_less c x served less =
    let e : c.bound - served ≡ c.bound - (served + 1) + 1 = omega arith in
    ap (λ (z : ℕ). z * service c x) e ∙ once_more (c.bound - (served + 1)) (service c x)

module _ (c : Setting) (x : Chain) where
  abbrev pub Leaves : Phase → Phase → Type 0
  Leaves from to = steps_left c.config x to < steps_left c.config x from

  shut_read : (job : Job) (request : Request) (b : Bool) → Leaves (Phase.Sending job (Sending.ReadShut request)) (phase_of send_side.in_service job (cond b (On Sending.ReadTotal) (Decides (Answer.Send SendAnswer.Closed))))
  shut_read job request b = grind arith

  count_read : (job : Job) (request : Request) (count : ℕ) (b life : Bool) →
      Leaves (Phase.Sending job (Sending.ReadCount request)) (phase_of send_side.in_service job (cond b (On (Sending.ReadLastToClose count)) (cond life (Decides (Answer.Send SendAnswer.Spent)) (On (Sending.ReadCursor record { place = count; tag = request.tag; body = request.body })))))
  count_read job request count b life = grind arith

  passed_read : (job : Job) (parcel : Parcel) (at reads : ℕ) (b last : Bool) → reads ≤ c.config.capacity + 1 → (reads == c.config.capacity + 1) ≡ last →
      Leaves (Phase.Sending job (Sending.ReadPassed parcel at reads)) (phase_of send_side.in_service job (cond b (On (Sending.ResetPassed parcel at)) (cond last (Decides (Answer.Send SendAnswer.Full)) (On (Sending.ReadPassed parcel (after c.config at) (reads + 1))))))
  passed_read job parcel at reads false false most is = omega (arith, most, eqb-false reads (c.config.capacity + 1) is)
  passed_read job parcel at reads _ _ most is = omega arith

  sends : (job : Job) (at : Sending) (found : ℕ) → scan_reads (Phase.Sending job at) ≤ c.config.capacity + 1 → Leaves (Phase.Sending job at) (send_side.goes c.config job at found)
  sends job (Sending.ReadBody request i) found short =
      behind_word (λ (z : Sending). Leaves (Phase.Sending job (Sending.ReadBody request i)) (Phase.Sending job z)) (further_words request.tag) i _ _ (λ more. omega (arith, more, few_further request.tag)) (λ last. omega arith)
  sends job (Sending.ReadShut request) (suc found) short = shut_read job request (request.tag == 0)
  sends job (Sending.ReadCount request) found short = count_read job request found (request.tag == 0) (found == c.config.life)
  sends job (Sending.ReadPassed parcel at reads) found short = passed_read job parcel at reads (found == groups c.config) (reads == c.config.capacity + 1) short refl
  sends job (Sending.WriteItemBody parcel at i) found short =
      behind_word (λ (z : Sending). Leaves (Phase.Sending job (Sending.WriteItemBody parcel at i)) (Phase.Sending job z)) (further_words parcel.tag) i _ _ (λ more. omega (arith, more, few_further parcel.tag)) (λ last. omega arith)
  sends job at found short = grind arith

  takes : (job : Job) (at : Taking) (found : ℕ) → Leaves (Phase.Taking job at) (take_side.goes job at found)
  takes job (Taking.ReadItemBody dummy at p i) found =
      behind_word (λ (z : Taking). Leaves (Phase.Taking job (Taking.ReadItemBody dummy at p i)) (Phase.Taking job z)) (further_words p.tag) i _ _ (λ more. omega (arith, more, few_further p.tag)) (λ last. omega arith)
  takes job at found = grind arith

  counts : (job : Job) (at : Counting) (found : ℕ) → Leaves (Phase.Counting job at) (count_side.goes job at found)
  counts job (Counting.ReadBody tag i) found =
      behind_word (λ (z : Counting). Leaves (Phase.Counting job (Counting.ReadBody tag i)) (Phase.Counting job z)) (further_words tag) i _ _ (λ more. omega (arith, more, few_further tag)) (λ last. omega arith)
  counts job at found = grind arith

  state_read : (own found : ℕ) → found ≢ 1 → Leaves Phase.ReadState (after_state own found)
  state_read own found ne = grind arith

  next_read : (round : Round) (found : ℕ) (what : Served) (y : Chain) → round.served < c.config.bound → steps_left c.config y (after_next what y round found) < steps_left c.config y (Phase.ReadNext round)
  next_read round found what y less =
      grind (arith, one_less c.config Chain.Send round.served less, one_less c.config, round.served)

  answer_written : (job : Job) (told : Answer) → Leaves (Phase.WriteAnswer job told) (after_answer job told)
  answer_written job told = grind arith

  done : (job : Job) (b : Bool) → Leaves (Phase.MarkDone job) (cond b (Phase.HandOver job.next) (Phase.ReadNext record { at = job.next; served = job.round.served + 1 }))
  done job b = grind arith

  taken_read : (ret : ℕ) (one two : Bool) → Leaves Phase.ReadAnswer (cond one (Phase.ReadAnswerTag (value_of ret)) (cond two (Phase.Finished (Answer.Take TakeAnswer.Empty)) (Phase.Finished (Answer.Take (TakeAnswer.Ended (value_of ret))))))
  taken_read ret one two = grind arith

  ret_read : (what : Served) (y : Chain) (ret : ℕ) → Leaves Phase.ReadAnswer (after_ret what y ret)
  ret_read what Chain.Send ret = omega arith
  ret_read what (Chain.Take g) ret = taken_read ret (code_of ret == 1) (code_of ret == 2)

  pub leaves : (own : ℕ) (at : Phase) (found : ℕ) → is_in at ≡ true → served_by at < c.config.bound → scan_reads at ≤ c.config.capacity + 1 → (at ≡ Phase.ReadState → found ≢ 1) → Leaves at (goes c x own at found)
  leaves own (Phase.WriteBody put request i) found inside less short goes_on =
      behind_word (λ (z : Phase). Leaves (Phase.WriteBody put request i) z) (further_words request.tag) i _ _ (λ more. omega (arith, more, few_further request.tag)) (λ last. omega arith)
  leaves own Phase.ReadState found inside less short goes_on = state_read own found (goes_on refl)
  leaves own (Phase.ReadNext round) found inside less short goes_on = next_read round found c.served x less
  leaves own (Phase.Counting job at) found inside less short goes_on = counts job at found
  leaves own (Phase.Sending job at) found inside less short goes_on = sends job at found short
  leaves own (Phase.Taking job at) found inside less short goes_on = takes job at found
  leaves own (Phase.WriteAnswer job told) found inside less short goes_on = answer_written job told
  leaves own (Phase.WriteAnswerBody job item i) found inside less short goes_on =
      behind_word (λ (z : Phase). Leaves (Phase.WriteAnswerBody job item i) z) (further_words (tag_of item)) i _ _ (λ more. omega (arith, more, few_further (tag_of item))) (λ last. omega arith)
  leaves own (Phase.MarkDone job) found inside less short goes_on = done job (job.round.served + 1 == c.config.bound)
  leaves own Phase.ReadAnswer found inside less short goes_on = ret_read c.served x found
  leaves own (Phase.ReadAnswerBody p i) found inside less short goes_on =
      behind_word (λ (z : Phase). Leaves (Phase.ReadAnswerBody p i) z) (further_words p.tag) i _ _ (λ more. omega (arith, more, few_further p.tag)) (λ last. omega arith)
  leaves own at found inside less short goes_on = grind arith

  state_le : (own found : ℕ) → steps_left c.config x (after_state own found) ≤ steps_left c.config x Phase.ReadState
  state_le own found = grind arith

  -- and that read leaves it no more
  pub leaves_no_more : (own : ℕ) (at : Phase) (found : ℕ) → is_in at ≡ true → served_by at < c.config.bound → scan_reads at ≤ c.config.capacity + 1 → steps_left c.config x (goes c x own at found) ≤ steps_left c.config x at
  leaves_no_more own Phase.ReadState found inside less short = state_le own found
  leaves_no_more own at found inside less short = let fewer : Leaves at (goes c x own at found) = leaves own at found inside less short (λ e. absurd (cc)) in omega (arith, fewer)

-- ---- at most so many

pub service_low : (c : Config) (x : Chain) → 19 ≤ service c x
service_low c x = grind arith

serves_most : (c : Config) (x : Chain) (served : ℕ) → to_serve c x served ≤ c.bound * service c x
serves_most c x served = mul-le-mul_right (service c x) (omega arith)

serves_one : (c : Config) (x : Chain) (served : ℕ) → 0 < c.bound → to_serve c x (served + 1) + service c x ≤ c.bound * service c x
serves_one c x served some =
    let low : (c.bound - (served + 1) + 1) * service c x ≤ c.bound * service c x = mul-le-mul_right (service c x) (omega (arith, some)) in
    omega (arith, low, once_more (c.bound - (served + 1)) (service c x))

pub writing_few : (told : Answer) → writing_left told ≤ 7
writing_few told = grind arith

pub counting_few : (at : Counting) → counting_left at ≤ 7
counting_few at = grind arith

pub taking_few : (at : Taking) → taking_left at ≤ 11
taking_few at = grind arith

pub sending_few : (c : Config) (at : Sending) → sending_left c at ≤ c.capacity + 21
sending_few c at = grind arith

module _ (c : Config) (x : Chain) (some : 0 < c.bound) where
  abbrev most : ℕ
  most = c.bound * service c x + 15

  -- where only the senders' combiner serves a send
  pub steps_most : (at : Phase) → is_in at ≡ true → ((job : Job) (service : Sending) → at ≡ Phase.Sending job service → x ≡ Chain.Send) → steps_left c x at ≤ c.bound * service c x + 15
  steps_most at inside where_ = grind (
    arith,
    serves_most c x 0,
    serves_most c x,
    serves_one c x,
    counting_few,
    service_low c x,
    sending_few c,
    taking_few,
    writing_few,
  )

pub steps_some : (c : Config) (x : Chain) (at : Phase) → is_in at ≡ true → 0 < steps_left c x at
steps_some c x at inside = grind arith

-- ---- a call that waits has done no more than enter

serves_low : (c : Config) (x : Chain) (served : ℕ) → to_serve c x served ≤ to_serve c x 0
serves_low c x served = mul-le-mul_right (service c x) (omega arith)

serves_all : (c : Config) (x : Chain) → c.bound * service c x ≡ to_serve c x 0
serves_all c x = let e : c.bound ≡ c.bound - 0 = omega arith in ap (λ (z : ℕ). z * service c x) e

-- it waits for the state, enters, or has fewer steps left
pub still_waits : (c : Config) (x : Chain) → 0 < c.bound → (at : Phase) → is_in at ≡ true → ((job : Job) (service : Sending) → at ≡ Phase.Sending job service → x ≡ Chain.Send) → steps_left c x Phase.ReadState ≤ steps_left c x at → (at ≡ Phase.ReadState) ⊎ (0 < entering_left at)
still_waits c x some (Phase.ReadNext round) inside where_ low = absurd (omega (arith, low, serves_low c x round.served))
still_waits c x some (Phase.Counting job at) inside where_ low = absurd (omega (arith, low, serves_one c x job.round.served some, serves_all c x, counting_few at, service_low c x))
still_waits c x some (Phase.Sending job at) inside where_ low =
    let is : c.capacity + 24 ≡ service c x = ap (service c) (sym (where_ job at refl)) in
    absurd (omega (arith, low, serves_one c x job.round.served some, serves_all c x, sending_few c at, is))
still_waits c x some (Phase.Taking job at) inside where_ low = absurd (omega (arith, low, serves_one c x job.round.served some, serves_all c x, taking_few at, service_low c x))
still_waits c x some (Phase.WriteAnswer job told) inside where_ low = absurd (omega (arith, low, serves_one c x job.round.served some, serves_all c x, writing_few told, service_low c x))
still_waits c x some (Phase.WriteAnswerTag job item) inside where_ low = absurd (omega (arith, low, serves_one c x job.round.served some, serves_all c x, service_low c x))
still_waits c x some (Phase.WriteAnswerBody job item i) inside where_ low = absurd (omega (arith, low, serves_one c x job.round.served some, serves_all c x, service_low c x))
still_waits c x some (Phase.MarkDone job) inside where_ low = absurd (omega (arith, low, serves_one c x job.round.served some, serves_all c x, service_low c x))
still_waits c x some at inside where_ low = grind arith
