-- The places after a step.
use Rattle.std.proofs.Common.{ℕ, zero, suc, ◌+◌, Bool, ◌==◌, nat_lt, arith, if◌then◌else◌}
use Rattle.cc_runs.specs.Names.{Entry, Answer, TakeAnswer, Setting, Served, Chain, Round, Job, Phase}
use Rattle.cc_runs.specs.Codes.{code_of, parcel, no_words, with_read, tag_of, further_words}
use Rattle.cc_runs.specs.Lines.{goes, after_exchange, after_state, after_next, after_answer, after_ret}
use Rattle.cc_runs.specs.ServiceLine.{Next, phase_of}
use Rattle.cc_runs.specs.CountLines as count_side
use Rattle.cc_runs.specs.SendLines as send_side
use Rattle.cc_runs.specs.TakeLines as take_side

-- a step of a service: on in the service, or to the writing of an answer
module _ {S : Type 0} (P : Phase → Type 0) (in_service : Job → S → Phase) (job : Job) (on : (service : S) → P (in_service job service)) (over : (told : Answer) → P (Phase.WriteAnswer job told)) where
  pub leads : (next : Next S) → P (phase_of in_service job next)
  leads next = grind arith

-- a place of a pass that has exchanged, or has no call; in a service in which T holds
abbrev pub IsAfter : Type 0 → Phase → Type 0
IsAfter T (Phase.ResetNext call) = ⊥
IsAfter T (Phase.ResetState call) = ⊥
IsAfter T (Phase.Exchange call) = ⊥
IsAfter T (Phase.Counting job service) = T
IsAfter T (Phase.Sending job service) = T
IsAfter T (Phase.Taking job service) = T
IsAfter T _ = Unit {0}

-- a place from which a step leads to such a place
abbrev pub LeadsAfter : Type 0 → Phase → Type 0
LeadsAfter T (Phase.ResetNext call) = ⊥
LeadsAfter T (Phase.ResetState call) = ⊥
LeadsAfter T (Phase.Exchange call) = Unit {0}
LeadsAfter T (Phase.ReadNext round) = T
LeadsAfter T at = IsAfter T at

-- what holds of all such places holds of where a step leads
module _ (T : Type 0) (P : Phase → Type 0) (after : (at : Phase) → IsAfter T at → P at) where
  either : (b : Bool) (first second : Phase) → P first → P second → P (if b then first else second)
  either b first second a z = grind arith

  from_exchange : (x : Chain) (own : ℕ) (call : Entry) → P (after_exchange x own call)
  from_exchange Chain.Send own call = after (Phase.WriteTag own _) tt
  from_exchange (Chain.Take g) own call = after (Phase.Link own) tt

  from_state : (own found : ℕ) → P (after_state own found)
  from_state own zero = after (Phase.ReadNext record { at = own; served = 0 }) tt
  from_state own (suc zero) = after Phase.ReadState tt
  from_state own (suc (suc n)) = after Phase.ReadAnswer tt

  from_next : (what : Served) (x : Chain) (round : Round) (found : ℕ) → T → P (after_next what x round found)
  from_next what x round zero in_service = after (Phase.HandOver round.at) tt
  from_next Served.Counter x round (suc next) in_service = after (Phase.Counting _ _) in_service
  from_next Served.List Chain.Send round (suc next) in_service = after (Phase.Sending _ _) in_service
  from_next Served.List (Chain.Take g) round (suc next) in_service = after (Phase.Taking _ _) in_service

  from_answer : (job : Job) (told : Answer) → P (after_answer job told)
  from_answer job (Answer.Take (TakeAnswer.Got item)) = after (Phase.WriteAnswerTag job item) tt
  from_answer job _ = after (Phase.MarkDone job) tt

  from_ret : (what : Served) (x : Chain) (ret : ℕ) → P (after_ret what x ret)
  from_ret what Chain.Send ret = after (Phase.Finished _) tt
  from_ret what (Chain.Take g) ret = either (code_of ret == 1) _ _ (after (Phase.ReadAnswerTag _) tt) (either (code_of ret == 2) _ _ (after (Phase.Finished _) tt) (after (Phase.Finished _) tt))

  pub goes_after : (c : Setting) (x : Chain) (own : ℕ) (at : Phase) (found : ℕ) → LeadsAfter T at → P (goes c x own at found)
  goes_after c x own Phase.Idle found u = after Phase.Idle tt
  goes_after c x own (Phase.Exchange call) found u = from_exchange x own call
  goes_after c x own (Phase.WriteTag put request) found u = after (Phase.WriteBody put request 0) tt
  goes_after c x own (Phase.WriteBody put request i) found u = either (nat_lt i (further_words request.tag)) _ _ (after (Phase.WriteBody put request (i + 1)) tt) (after (Phase.Link put) tt)
  goes_after c x own (Phase.Link put) found u = after Phase.ReadState tt
  goes_after c x own Phase.ReadState found u = from_state own found
  goes_after c x own (Phase.ReadNext round) found in_service = from_next c.served x round found in_service
  goes_after c x own (Phase.Counting job service) found in_service = leads P count_side.in_service job (λ s. after (Phase.Counting job s) in_service) (λ told. after (Phase.WriteAnswer job told) tt) (count_side.line 0 service found).next
  goes_after c x own (Phase.Sending job service) found in_service = leads P send_side.in_service job (λ s. after (Phase.Sending job s) in_service) (λ told. after (Phase.WriteAnswer job told) tt) (send_side.line c.config 0 service found).next
  goes_after c x own (Phase.Taking job service) found in_service = leads P take_side.in_service job (λ s. after (Phase.Taking job s) in_service) (λ told. after (Phase.WriteAnswer job told) tt) (take_side.line 0 service found).next
  goes_after c x own (Phase.WriteAnswer job told) found u = from_answer job told
  goes_after c x own (Phase.WriteAnswerTag job item) found u = after (Phase.WriteAnswerBody job item 0) tt
  goes_after c x own (Phase.WriteAnswerBody job item i) found u = either (nat_lt i (further_words (tag_of item))) _ _ (after (Phase.WriteAnswerBody job item (i + 1)) tt) (after (Phase.MarkDone job) tt)
  goes_after c x own (Phase.MarkDone job) found u = either (job.round.served + 1 == c.config.bound) _ _ (after (Phase.HandOver job.next) tt) (after (Phase.ReadNext record { at = job.next; served = job.round.served + 1 }) tt)
  goes_after c x own (Phase.HandOver at) found u = after Phase.ReadAnswer tt
  goes_after c x own Phase.ReadAnswer found u = from_ret c.served x found
  goes_after c x own (Phase.ReadAnswerTag at) found u = after (Phase.ReadAnswerBody (parcel at found no_words) 0) tt
  goes_after c x own (Phase.ReadAnswerBody at i) found u = either (nat_lt i (further_words at.tag)) _ _ (after (Phase.ReadAnswerBody (with_read at i found) (i + 1)) tt) (after (Phase.Finished _) tt)
  goes_after c x own (Phase.Finished told) found u = after (Phase.Finished told) tt
  goes_after c x own _ found never = absurd never
