-- Each step of a combiner brings the calls that wait nearer to their answers.
use Rattle.std.proofs.Common.{◌≡◌, ◌≢◌, ℕ, zero, suc, ◌+◌, ◌-◌, ◌*◌, ◌<◌, ◌≤◌, Bool, true, false, ◌==◌, nat_lt, cond, Option, Some, None, refl, ap, sym, ◌∙◌, subst, arith}
use Rattle.std.proofs.lemmas.Bool.{lt-ltb, le-ltb, ne_eqb, eqb-false, eqb-true}
use Rattle.cc_runs.specs.Names.{Answer, SendAnswer, CloseAnswer, TakeAnswer, Setting, Served, Chain, Round, Job, Request, Parcel, Counting, Sending, Taking, Phase}
use Rattle.cc_runs.specs.Codes.{further_words, tag_of, no_words, parcel, with_asked}
use Rattle.cc_runs.specs.Words.{groups}
use Rattle.cc_runs.specs.Lines.{goes, decides, after_next, after_answer}
use Rattle.cc_runs.specs.ServiceLine.{Next, On, Decides, DecidesAndOn, phase_of, answer_of}
use Rattle.cc_runs.specs.CountLines as count_side
use Rattle.cc_runs.specs.SendLines as send_side
use Rattle.cc_runs.specs.SendLines.{after}
use Rattle.cc_runs.specs.TakeLines as take_side
use Rattle.cc_runs.specs.MachineLaws.{scan_reads}
use Rattle.cc_runs.specs.Turns.{decided}
use Rattle.cc_runs.specs.Ahead.{service, taken_on, serving_left, serving_part}
use Rattle.cc_runs.specs.ChainLaws.{is_combining}
use Rattle.cc_runs.proofs.Bodies.{few_further}
use Rattle.cc_runs.proofs.ReadWords.{behind_word}

-- ---- numbers

pub add_le : (r r' v v' : ℕ) → r' ≤ r → v' ≤ v → r' + v' ≤ r + v
add_le r r' v v' a b = omega (arith, a, b)

pub add_lt : (r r' v v' : ℕ) → r' ≤ r → v' < v → r' + v' < r + v
add_lt r r' v v' a b = omega (arith, a, b)

pub lt_add : (r r' v v' : ℕ) → r' < r → v' ≤ v → r' + v' < r + v
lt_add r r' v v' a b = omega (arith, a, b)

same_le : (r r' : ℕ) → r' ≡ r → r' ≤ r
same_le r r' e = omega (arith, e)

more_le : (r r' cost e e' : ℕ) → r ≡ r' + cost → e' < cost + e → r' + e' < r + e
more_le r r' cost e e' a b = omega (arith, a, b)

none_le : (r r' v v' : ℕ) → r' ≡ 0 → v' ≡ 0 → r' + v' ≤ r + v
none_le r r' v v' a b = omega (arith, a, b)

once_more : (calls cost : ℕ) → (calls + 1) * cost ≡ calls * cost + cost
once_more calls cost = omega arith

-- answers, calls taken on, answers decided of the call in service, and steps left
module _ (cost k : ℕ) where
  abbrev pub value : ℕ → ℕ → ℕ → ℕ → ℕ
  value a t d e = (k - (a + t)) * cost + cond (nat_lt a (k + d)) e 0

  abbrev pub Falls4 : ℕ → ℕ → ℕ → ℕ → ℕ → ℕ → ℕ → ℕ → Type 0
  Falls4 a t d e a' t' d' e' = (value a' t' d' e' ≤ value a t d e) × (a < k + d → value a' t' d' e' < value a t d e)

  counted : (a d e : ℕ) → a < k + d → cond (nat_lt a (k + d)) e 0 ≡ e
  counted a d e less = ap (λ (b : Bool). cond b e 0) (lt-ltb a (k + d) less)

  not_counted : (a d e : ℕ) → k + d ≤ a → cond (nat_lt a (k + d)) e 0 ≡ 0
  not_counted a d e far = ap (λ (b : Bool). cond b e 0) (le-ltb a (k + d) far)

  less_counted : (a d e a' d' e' : ℕ) → a + d' ≤ a' + d → e' < e → a < k + d → cond (nat_lt a' (k + d')) e' 0 < cond (nat_lt a (k + d)) e 0
  less_counted a d e a' d' e' low less early =
      grind (arith, counted a d e early, counted a' d' e', not_counted a' d' e')

  no_more_counted : (a d e a' d' e' : ℕ) → a + d' ≤ a' + d → e' < e → cond (nat_lt a' (k + d')) e' 0 ≤ cond (nat_lt a (k + d)) e 0
  no_more_counted a d e a' d' e' low less = grind (arith, less_counted a d e a' d' e' low less, not_counted a' d' e')

  -- a service goes on
  pub go_on : (a t d e a' t' d' e' : ℕ) → a' + t' ≡ a + t → a + d' ≤ a' + d → e' < e → Falls4 a t d e a' t' d' e'
  go_on a t d e a' t' d' e' same low less =
      let rest : (k - (a' + t')) * cost ≡ (k - (a + t)) * cost = ap (λ (z : ℕ). (k - z) * cost) same in (
        add_le ((k - (a + t)) * cost) ((k - (a' + t')) * cost) _ _ (same_le _ _ rest) (no_more_counted a d e a' d' e' low less),
        λ early. add_lt ((k - (a + t)) * cost) ((k - (a' + t')) * cost) _ _ (same_le _ _ rest) (less_counted a d e a' d' e' low less early),
      )

  -- a call is taken on
  pub take_on : (a e e' : ℕ) → e' < cost + e → Falls4 a 0 0 e a 1 0 e'
  take_on a e e' less = (
    grind (arith, weak, lower, none_le, all, zero_times, not_counted a 0 e'),
    λ early. lower early,
  )
    where
      weak : value a 1 0 e' < value a 0 0 e → value a 1 0 e' ≤ value a 0 0 e
      weak h = lt_le (value a 1 0 e') (value a 0 0 e) h
        where
          lt_le : (m n : ℕ) → m < n → m ≤ n
          lt_le m n h = omega (arith, h)

      zero_times : 0 * cost ≡ 0
      zero_times = omega arith

      all : k + 0 ≤ a → k - (a + 1) ≡ 0
      all far = omega (arith, far)

      lower : a < k + 0 → value a 1 0 e' < value a 0 0 e
      lower near =
          let one : k - (a + 0) ≡ k - (a + 1) + 1 = omega (arith, near) in
          let rest : (k - (a + 0)) * cost ≡ (k - (a + 1)) * cost + cost = ap (λ (z : ℕ). z * cost) one ∙ once_more (k - (a + 1)) cost in
          subst (λ (z : ℕ). (k - (a + 1)) * cost + z < (k - (a + 0)) * cost + cond (nat_lt a (k + 0)) e 0) (sym (counted a 0 e' near))
          (subst (λ (z : ℕ). (k - (a + 1)) * cost + e' < (k - (a + 0)) * cost + z) (sym (counted a 0 e near)) (more_le ((k - (a + 0)) * cost) ((k - (a + 1)) * cost) cost e e' rest less))

-- ---- phases

abbrev pub more : Option Answer → ℕ
more None = 0
more (Some told) = 1

-- the phase of a chain's combiner, if its phase is this
abbrev pub as_combiner : Phase → Phase
as_combiner at = cond (is_combining at) at Phase.Idle

module _ (c : Setting) (x : Chain) (k a : ℕ) where
  abbrev pub Falls : Phase → Phase → ℕ → Type 0
  Falls from to m = (serving_part c.config x k (a + m) to ≤ serving_part c.config x k a from) × (a < k + decided from → serving_part c.config x k (a + m) to < serving_part c.config x k a from)

  on : (from to : Phase) (m : ℕ) → a + m + taken_on to ≡ a + taken_on from → a + decided to ≤ a + m + decided from → serving_left c.config x to < serving_left c.config x from → Falls from to m
  on from to m same low less = go_on (service c.config x + 3) k a (taken_on from) (decided from) (serving_left c.config x from) (a + m) (taken_on to) (decided to) (serving_left c.config x to) same low less

  abbrev Sends : Job → Sending → Next Sending → Type 0
  Sends job at next = Falls (Phase.Sending job at) (phase_of send_side.in_service job next) (more (answer_of next))

  shut_read : (job : Job) (request : Request) (b : Bool) → Sends job (Sending.ReadShut request) (cond b (On Sending.ReadTotal) (Decides (Answer.Send SendAnswer.Closed)))
  shut_read job request true = on (Phase.Sending job (Sending.ReadShut request)) (Phase.Sending job Sending.ReadTotal) 0 (omega arith) (omega arith) (omega arith)
  shut_read job request false = on (Phase.Sending job (Sending.ReadShut request)) (Phase.WriteAnswer job (Answer.Send SendAnswer.Closed)) 1 (omega arith) (omega arith) (omega arith)

  count_read : (job : Job) (request : Request) (count : ℕ) (b life : Bool) →
      Sends job (Sending.ReadCount request) (cond b (On (Sending.ReadLastToClose count)) (cond life (Decides (Answer.Send SendAnswer.Spent)) (On (Sending.ReadCursor record { place = count; tag = request.tag; body = request.body }))))
  count_read job request count true life = on (Phase.Sending job (Sending.ReadCount request)) (Phase.Sending job (Sending.ReadLastToClose count)) 0 (omega arith) (omega arith) (omega arith)
  count_read job request count false true = on (Phase.Sending job (Sending.ReadCount request)) (Phase.WriteAnswer job (Answer.Send SendAnswer.Spent)) 1 (omega arith) (omega arith) (omega arith)
  count_read job request count false false = on (Phase.Sending job (Sending.ReadCount request)) (Phase.Sending job (Sending.ReadCursor record { place = count; tag = request.tag; body = request.body })) 0 (omega arith) (omega arith) (omega arith)

  passed_read : (job : Job) (parcel : Parcel) (at reads : ℕ) (b last : Bool) → reads ≤ c.config.capacity + 1 → (reads == c.config.capacity + 1) ≡ last →
      Sends job (Sending.ReadPassed parcel at reads) (cond b (On (Sending.ResetPassed parcel at)) (cond last (Decides (Answer.Send SendAnswer.Full)) (On (Sending.ReadPassed parcel (after c.config at) (reads + 1)))))
  passed_read job parcel at reads true last most is = on (Phase.Sending job (Sending.ReadPassed parcel at reads)) (Phase.Sending job (Sending.ResetPassed parcel at)) 0 (omega arith) (omega arith) (omega arith)
  passed_read job parcel at reads false true most is = on (Phase.Sending job (Sending.ReadPassed parcel at reads)) (Phase.WriteAnswer job (Answer.Send SendAnswer.Full)) 1 (omega arith) (omega arith) (omega arith)
  passed_read job parcel at reads false false most is =
      on (Phase.Sending job (Sending.ReadPassed parcel at reads)) (Phase.Sending job (Sending.ReadPassed parcel (after c.config at) (reads + 1))) 0 (omega arith) (omega arith) (omega (arith, most, eqb-false reads (c.config.capacity + 1) is))

  quiet : (job : Job) (from to : Sending) → taken_on (Phase.Sending job to) ≡ taken_on (Phase.Sending job from) → decided (Phase.Sending job to) ≡ decided (Phase.Sending job from) →
      serving_left c.config x (Phase.Sending job to) < serving_left c.config x (Phase.Sending job from) → Falls (Phase.Sending job from) (Phase.Sending job to) 0
  quiet job from to same low less = on (Phase.Sending job from) (Phase.Sending job to) 0 (omega (arith, same)) (omega (arith, low)) less

  sends : (job : Job) (at : Sending) (found : ℕ) → scan_reads (Phase.Sending job at) ≤ c.config.capacity + 1 → Sends job at (send_side.line c.config 0 at found).next
  sends job Sending.ReadTag found short = quiet job Sending.ReadTag (Sending.ReadBody record { tag = found; body = no_words } 0) refl refl (omega arith)
  sends job (Sending.ReadBody request i) found short =
      behind_word (λ (z : Sending). Falls (Phase.Sending job (Sending.ReadBody request i)) (Phase.Sending job z) 0) (further_words request.tag) i _ _
      (λ more_. quiet job (Sending.ReadBody request i) (Sending.ReadBody (with_asked request i found) (i + 1)) refl refl (omega (arith, more_, few_further request.tag))) (λ last. quiet job (Sending.ReadBody request i) (Sending.ReadShut (with_asked request i found)) refl refl (omega arith))
  sends job (Sending.ReadShut request) zero short = quiet job (Sending.ReadShut request) (Sending.ReadCount request) refl refl (omega arith)
  sends job (Sending.ReadShut request) (suc found) short = shut_read job request (request.tag == 0)
  sends job Sending.ReadTotal found short = on (Phase.Sending job Sending.ReadTotal) (Phase.WriteAnswer job (Answer.Close (CloseAnswer.Already found))) 1 (omega arith) (omega arith) (omega arith)
  sends job (Sending.ReadCount request) found short = count_read job request found (request.tag == 0) (found == c.config.life)
  sends job (Sending.ReadLastToClose total) found short = quiet job (Sending.ReadLastToClose total) (Sending.LinkMark total (found - 1)) refl refl (omega arith)
  sends job (Sending.LinkMark total last) found short = on (Phase.Sending job (Sending.LinkMark total last)) (Phase.Sending job (Sending.WriteLastMark total)) 1 (omega arith) (omega arith) (omega arith)
  sends job (Sending.WriteLastMark total) found short = quiet job (Sending.WriteLastMark total) (Sending.WriteShut total) refl refl (omega arith)
  sends job (Sending.WriteShut total) found short = on (Phase.Sending job (Sending.WriteShut total)) (Phase.WriteAnswer job (Answer.Close (CloseAnswer.Shut total))) 0 (omega arith) (omega arith) (omega arith)
  sends job (Sending.ReadCursor parcel) found short = quiet job (Sending.ReadCursor parcel) (Sending.ReadPassed parcel found 1) refl refl (omega arith)
  sends job (Sending.ReadPassed parcel at reads) found short = passed_read job parcel at reads (found == groups c.config) (reads == c.config.capacity + 1) short refl
  sends job (Sending.ResetPassed parcel at) found short = quiet job (Sending.ResetPassed parcel at) (Sending.ResetItemNext parcel at) refl refl (omega arith)
  sends job (Sending.ResetItemNext parcel at) found short = quiet job (Sending.ResetItemNext parcel at) (Sending.WriteItemTag parcel at) refl refl (omega arith)
  sends job (Sending.WriteItemTag parcel at) found short = quiet job (Sending.WriteItemTag parcel at) (Sending.WriteItemBody parcel at 0) refl refl (omega arith)
  sends job (Sending.WriteItemBody parcel at i) found short =
      behind_word (λ (z : Sending). Falls (Phase.Sending job (Sending.WriteItemBody parcel at i)) (Phase.Sending job z) 0) (further_words parcel.tag) i _ _
      (λ more_. quiet job (Sending.WriteItemBody parcel at i) (Sending.WriteItemBody parcel at (i + 1)) refl refl (omega (arith, more_, few_further parcel.tag))) (λ last. quiet job (Sending.WriteItemBody parcel at i) (Sending.ReadLast parcel.place at) refl refl (omega arith))
  sends job (Sending.ReadLast place at) found short = quiet job (Sending.ReadLast place at) (Sending.LinkItem place at (found - 1)) refl refl (omega arith)
  sends job (Sending.LinkItem place at last) found short = on (Phase.Sending job (Sending.LinkItem place at last)) (Phase.Sending job (Sending.WriteLast place at)) 1 (omega arith) (omega arith) (omega arith)
  sends job (Sending.WriteLast place at) found short = quiet job (Sending.WriteLast place at) (Sending.WriteCount place at) refl refl (omega arith)
  sends job (Sending.WriteCount place at) found short = quiet job (Sending.WriteCount place at) (Sending.WriteCursor place at) refl refl (omega arith)
  sends job (Sending.WriteCursor place at) found short = on (Phase.Sending job (Sending.WriteCursor place at)) (Phase.WriteAnswer job (Answer.Send (SendAnswer.Accepted place))) 0 (omega arith) (omega arith) (omega arith)

  abbrev Takes : Job → Taking → Next Taking → Type 0
  Takes job at next = Falls (Phase.Taking job at) (phase_of take_side.in_service job next) (more (answer_of next))

  takes_on : (job : Job) (from to : Taking) → serving_left c.config x (Phase.Taking job to) < serving_left c.config x (Phase.Taking job from) → Falls (Phase.Taking job from) (Phase.Taking job to) 0
  takes_on job from to less = on (Phase.Taking job from) (Phase.Taking job to) 0 (omega arith) (omega arith) less

  takes : (job : Job) (at : Taking) (found : ℕ) → Takes job at (take_side.line 0 at found).next
  takes job at found = grind (
    arith,
    takes_on job Taking.ReadHead (Taking.ReadTaken (found - 1)),
    takes_on job,
    on,
    behind_word,
    further_words,
    few_further,
  )

  abbrev Counts : Job → Counting → Next Counting → Type 0
  Counts job at next = Falls (Phase.Counting job at) (phase_of count_side.in_service job next) (more (answer_of next))

  counts_on : (job : Job) (from to : Counting) → serving_left c.config x (Phase.Counting job to) < serving_left c.config x (Phase.Counting job from) → Falls (Phase.Counting job from) (Phase.Counting job to) 0
  counts_on job from to less = on (Phase.Counting job from) (Phase.Counting job to) 0 (omega arith) (omega arith) less

  counts : (job : Job) (at : Counting) (found : ℕ) → Counts job at (count_side.line 0 at found).next
  counts job Counting.ReadTag found = counts_on job Counting.ReadTag (Counting.ReadBody found 0) (omega arith)
  counts job (Counting.ReadBody tag i) found =
      behind_word (λ (z : Counting). Falls (Phase.Counting job (Counting.ReadBody tag i)) (Phase.Counting job z) 0) (further_words tag) i _ _
      (λ more_. counts_on job (Counting.ReadBody tag i) (Counting.ReadBody tag (i + 1)) (omega (arith, more_, few_further tag))) (λ last. counts_on job (Counting.ReadBody tag i) Counting.ReadCount (omega arith))
  counts job Counting.ReadCount found = counts_on job Counting.ReadCount (Counting.WriteCount found) (omega arith)
  counts job (Counting.WriteCount count) found = on (Phase.Counting job (Counting.WriteCount count)) (Phase.WriteAnswer job (Answer.Send (SendAnswer.Accepted count))) 1 (omega arith) (omega arith) (omega arith)

  -- a link is read: a combiner that has served nobody has taken on its own call
  abbrev FromNext : Bool → Phase → Type 0
  FromNext b to =
      (serving_part c.config x k (a + 0) to ≤ value (service c.config x + 3) k a (cond b 1 0) 0 (cond b (service c.config x + 2) 2))
      × (a < k + 0 → serving_part c.config x k (a + 0) to < value (service c.config x + 3) k a (cond b 1 0) 0 (cond b (service c.config x + 2) 2))

  hands : (b : Bool) (at : ℕ) → b ≢ true → FromNext b (Phase.HandOver at)
  hands true at ne = absurd (ne refl)
  hands false at ne = go_on (service c.config x + 3) k a 0 0 2 (a + 0) 0 0 1 (omega arith) (omega arith) (omega arith)

  picks : (b : Bool) (to : Phase) → taken_on to ≡ 1 → decided to ≡ 0 → serving_left c.config x to ≤ service c.config x + 1 → FromNext b to
  picks true to one none few = go_on (service c.config x + 3) k a 1 0 (service c.config x + 2) (a + 0) (taken_on to) (decided to) (serving_left c.config x to) (omega (arith, one)) (omega (arith, none)) (omega (arith, few))
  picks false to one none few =
      let at_to : Falls4 (service c.config x + 3) k a 0 0 2 a 1 0 (serving_left c.config x to) = take_on (service c.config x + 3) k a 2 (serving_left c.config x to) (omega (arith, few)) in
      let same : value (service c.config x + 3) k (a + 0) (taken_on to) (decided to) (serving_left c.config x to) ≡ value (service c.config x + 3) k a 1 0 (serving_left c.config x to) =
      λ i. value (service c.config x + 3) k (plus_zero i) (one i) (none i) (serving_left c.config x to) in
      (subst (λ (z : ℕ). z ≤ value (service c.config x + 3) k a 0 0 2) (sym same) at_to.0, λ early. subst (λ (z : ℕ). z < value (service c.config x + 3) k a 0 0 2) (sym same) (at_to.1 early))
    where
      plus_zero : a + 0 ≡ a
      plus_zero = omega arith

  next_picked : (b : Bool) (what : Served) (y : Chain) (job : Job) → y ≡ x → FromNext b (after_next what y job.round (suc job.next))
  next_picked b Served.Counter Chain.Send job e = picks b (Phase.Counting job Counting.ReadTag) refl refl (let is : c.config.capacity + 24 ≡ service c.config x = ap (service c.config) e in omega (arith, is))
  next_picked b Served.Counter (Chain.Take g) job e = picks b (Phase.Counting job Counting.ReadTag) refl refl (let is : 19 ≡ service c.config x = ap (service c.config) e in omega (arith, is))
  next_picked b Served.List Chain.Send job e = picks b (Phase.Sending job Sending.ReadTag) refl refl (let is : c.config.capacity + 24 ≡ service c.config x = ap (service c.config) e in omega (arith, is))
  next_picked b Served.List (Chain.Take g) job e = picks b (Phase.Taking job Taking.ReadHead) refl refl (let is : 19 ≡ service c.config x = ap (service c.config) e in omega (arith, is))

  answer_written : (job : Job) (told : Answer) → Falls (Phase.WriteAnswer job told) (after_answer job told) 0
  answer_written job (Answer.Take (TakeAnswer.Got item)) = on (Phase.WriteAnswer job (Answer.Take (TakeAnswer.Got item))) (Phase.WriteAnswerTag job item) 0 (omega arith) (omega arith) (omega arith)
  answer_written job e = on (Phase.WriteAnswer job e) (Phase.MarkDone job) 0 (omega arith) (omega arith) (omega arith)

  done : (job : Job) (b : Bool) → Falls (Phase.MarkDone job) (cond b (Phase.HandOver job.next) (Phase.ReadNext record { at = job.next; served = job.round.served + 1 })) 0
  done job true = on (Phase.MarkDone job) (Phase.HandOver job.next) 0 (omega arith) (omega arith) (omega arith)
  done job false =
      let no : (job.round.served + 1 == 0) ≡ false = ne_eqb (job.round.served + 1) 0 (λ e. absurd (omega (arith, e))) in
      let is_taken : taken_on (Phase.ReadNext record { at = job.next; served = job.round.served + 1 }) ≡ 0 = ap (λ (b : Bool). cond b 1 0) no in
      let left : serving_left c.config x (Phase.ReadNext record { at = job.next; served = job.round.served + 1 }) ≡ 2 = ap (λ (b : Bool). cond b (service c.config x + 2) 2) no in
      on (Phase.MarkDone job) (Phase.ReadNext record { at = job.next; served = job.round.served + 1 }) 0 (omega (arith, is_taken)) (omega arith) (omega (arith, left))

  -- ---- a step of the combiner

  stays_in : {S : Type 0} (in_service : Job → S → Phase) → ((job : Job) (at : S) → is_combining (in_service job at) ≡ true) → (job : Job) (next : Next S) → as_combiner (phase_of in_service job next) ≡ phase_of in_service job next
  stays_in in_service is job (On at) = ap (λ (b : Bool). cond b (in_service job at) Phase.Idle) (is job at)
  stays_in in_service is job (DecidesAndOn told at) = ap (λ (b : Bool). cond b (in_service job at) Phase.Idle) (is job at)
  stays_in in_service is job _ = refl

  as_is : (from to : Phase) (m : ℕ) → as_combiner to ≡ to → Falls from to m → Falls from (as_combiner to) m
  as_is from to m e h = subst (λ (z : Phase). Falls from z m) (sym e) h

  answer_stays : (job : Job) (told : Answer) → as_combiner (after_answer job told) ≡ after_answer job told
  answer_stays job told = grind arith

  done_stays : (job : Job) (b : Bool) → as_combiner (cond b (Phase.HandOver job.next) (Phase.ReadNext record { at = job.next; served = job.round.served + 1 })) ≡ cond b (Phase.HandOver job.next) (Phase.ReadNext record { at = job.next; served = job.round.served + 1 })
  done_stays job b = grind arith

  next_stays : (what : Served) (y : Chain) (round : Round) (next : ℕ) → as_combiner (after_next what y round (suc next)) ≡ after_next what y round (suc next)
  next_stays what y round next = grind arith

  next_read : (round : Round) (found : ℕ) → (round.served ≡ 0 → found ≢ 0) → Falls (Phase.ReadNext round) (as_combiner (after_next c.served x round found)) 0
  next_read round zero linked = hands (round.served == 0) round.at (λ e. linked (eqb-true round.served 0 e) refl)
  next_read round (suc next) linked = as_is (Phase.ReadNext round) (after_next c.served x round (suc next)) 0 (next_stays c.served x round next) (next_picked (round.served == 0) c.served x record { round = round; next = next } refl)

  pub combiner_step : (own : ℕ) (at : Phase) (found : ℕ) → is_combining at ≡ true → scan_reads at ≤ c.config.capacity + 1 → ((round : Round) → at ≡ Phase.ReadNext round → round.served ≡ 0 → found ≢ 0) → Falls at (as_combiner (goes c x own at found)) (more (decides c at found))
  combiner_step own (Phase.ReadNext round) found is short linked = next_read round found (linked round refl)
  combiner_step own (Phase.Counting job at) found is short linked = as_is (Phase.Counting job at) (count_side.goes job at found) _ (stays_in count_side.in_service (λ j z. refl) job (count_side.line 0 at found).next) (counts job at found)
  combiner_step own (Phase.Sending job at) found is short linked = as_is (Phase.Sending job at) (send_side.goes c.config job at found) _ (stays_in send_side.in_service (λ j z. refl) job (send_side.line c.config 0 at found).next) (sends job at found short)
  combiner_step own (Phase.Taking job at) found is short linked = as_is (Phase.Taking job at) (take_side.goes job at found) _ (stays_in take_side.in_service (λ j z. refl) job (take_side.line 0 at found).next) (takes job at found)
  combiner_step own (Phase.WriteAnswer job told) found is short linked = as_is (Phase.WriteAnswer job told) (after_answer job told) 0 (answer_stays job told) (answer_written job told)
  combiner_step own (Phase.WriteAnswerTag job item) found is short linked = on (Phase.WriteAnswerTag job item) (Phase.WriteAnswerBody job item 0) 0 (omega arith) (omega arith) (omega arith)
  combiner_step own (Phase.WriteAnswerBody job item i) found is short linked =
      behind_word (λ (z : Phase). Falls (Phase.WriteAnswerBody job item i) (as_combiner z) 0) (further_words (tag_of item)) i _ _
      (λ more_. on (Phase.WriteAnswerBody job item i) (Phase.WriteAnswerBody job item (i + 1)) 0 (omega arith) (omega arith) (omega (arith, more_, few_further (tag_of item))))
      (λ last. on (Phase.WriteAnswerBody job item i) (Phase.MarkDone job) 0 (omega arith) (omega arith) (omega arith))
  combiner_step own (Phase.MarkDone job) found is short linked = as_is (Phase.MarkDone job) _ 0 (done_stays job (job.round.served + 1 == c.config.bound)) (done job (job.round.served + 1 == c.config.bound))
  combiner_step own (Phase.HandOver at) found is short linked = on (Phase.HandOver at) Phase.Idle 0 (omega arith) (omega arith) (omega arith)
  combiner_step own _ found is short linked = absurd (cc)

  -- nobody combined, and now this pass does
  pub combiner_starts : (own : ℕ) → Falls Phase.Idle (Phase.ReadNext record { at = own; served = 0 }) 0
  combiner_starts own =
      let t : Falls4 (service c.config x + 3) k a 0 0 0 a 1 0 (service c.config x + 2) = take_on (service c.config x + 3) k a 0 (service c.config x + 2) (omega arith) in (
        subst (λ (z : ℕ). serving_part c.config x k z (Phase.ReadNext record { at = own; served = 0 }) ≤ serving_part c.config x k a Phase.Idle) (sym plus_zero) t.0,
        λ early. subst (λ (z : ℕ). serving_part c.config x k z (Phase.ReadNext record { at = own; served = 0 }) < serving_part c.config x k a Phase.Idle) (sym plus_zero) (t.1 early),
      )
    where
      plus_zero : a + 0 ≡ a
      plus_zero = omega arith
