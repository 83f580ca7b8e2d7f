-- Steps that the judge's queue answers report calls which a sequential queue answers exactly so.
use Rattle.std.proofs.Common.{◌≡◌, ℕ, zero, suc, ◌+◌, ◌*◌, ◌/◌, ◌<◌, ◌≤◌, Bool, true, false, List, [], ◌∷◌, ◌++◌, length, Option, Some, Ok, inl, inr, refl, sym, ap, ◌∙◌, subst, arith, append_assoc, append-nil, length-append}
use Rattle.std.proofs.lemmas.Nat.{div-mul-add}
use Rattle.std.specs.List.{slice_get}
use Rattle.cc_model.specs.Config.{config_fault, group_of}
use Rattle.cc_model.specs.Record.{Side, Record}
use Rattle.cc_model.specs.Items.{accepted, accepted_item, sent_item, is_shut, handed, handed_by, handed_to_all}
use Rattle.cc_runs.specs.State.{noted}
use Rattle.cc_runs.specs.OnChain.{IsThere}
use Rattle.cc_runs.specs.Linearizable.{Effect, replay, AnswersAfter, IsExact, IsOfChain}
use Rattle.cc_runs.proofs.Ranges.{InRange, in_range}
use Rattle.cc_runs.proofs.Chains.Opening.{no_calls}
use Rattle.cc_runs.proofs.Linear.Replay.{replay_groups, replay_even}
use Rattle.cc_judge.specs.Order.{Does, Allows, closed_after, IsRun, Closes}
use Rattle.cc_agree.specs.Names.{Body, Pass, Call, Item, Entry, Answer, SendAnswer, CloseAnswer, TakeAnswer, Config, Chain, Act, Step}
use Rattle.cc_agree.specs.OneQueue.{Reports, ReportAll, IsAnswered, IsOfExact, AnsweredOrdersAreExact}
use Rattle.cc_agree.proofs.Goes.{waiting, length-waiting, Goes}
use Rattle.cc_agree.proofs.Answered.{to_all, send_accepted, Grows, grows}

-- a queue of a capacity that holds this goes to one place only by an act
one_next : (capacity : Option ℕ) (held a b : List ℕ) (act : Act) → Does capacity held act a → Does capacity held act b → a ≡ b
one_next capacity held a b (Act.Send item) d e = d.0 ∙ sym e.0
one_next capacity held a b (Act.Took item) d e = let both : item ∷ a ≡ item ∷ b = sym d ∙ e in cc
one_next capacity held a b Act.FoundNone d e = d.1 ∙ sym e.1
one_next capacity held a b Act.Taking d e = absurd d
one_next capacity held a b Act.Full d e = d.0 ∙ sym e.0
one_next capacity held a b Act.Closed d e = d ∙ sym e
one_next capacity held a b Act.Ended d e = d.1 ∙ sym e.1
one_next capacity held a b Act.Close d e = d ∙ sym e

-- the first item that waits
first_waits : (number : Body → ℕ) (out : ℕ) (items : List Item) (item : ℕ) (rest : List ℕ) → waiting number out items ≡ item ∷ rest → (x : Item) × (slice_get items out ≡ Some x) × (number x.body ≡ item)
first_waits number zero [] item rest is = absurd (cc)
first_waits number (suc out) [] item rest is = absurd (cc)
first_waits number zero (x ∷ items) item rest is = (x, refl, cc)
first_waits number (suc out) (x ∷ items) item rest is = first_waits number out items item rest is

module _ (cfg : Config) (number : Body → ℕ) (body : ℕ → Body) (checked : config_fault cfg ≡ Ok tt) (one : cfg.groups ≡ 1) (names : (item : ℕ) → number (body item) ≡ item) where
  -- ---- calls of the first sender, and of the first receiver

  abbrev entry_of : Pass → Call → Entry
  entry_of pass call = record { pass = pass; call = call; number = 1; known = 0 }

  abbrev send : Call → Answer → Effect
  send call answer = record { chain = Chain.Send; entry = entry_of (Pass.Sender 1) call; answer = answer }

  abbrev take : Answer → Effect
  take answer = record { chain = Chain.Take 0; entry = entry_of (Pass.Receiver 1) Call.Take; answer = answer }

  range : InRange cfg
  range = in_range cfg checked

  is_senders : (1 ≤ 1) × (1 ≤ cfg.senders)
  is_senders = (omega arith, range.senders.0)

  first_group : group_of cfg 1 ≡ 0
  first_group =
      let none : 0 ≡ 0 * cfg.receivers + 0 = omega arith in
      ap (λ (n : ℕ). n / cfg.receivers) none ∙ div-mul-add 0 cfg.receivers 0 (omega (arith, range.receivers.0))

  is_receivers : (1 ≤ 1) × (1 ≤ cfg.groups * cfg.receivers) × (group_of cfg 1 ≡ 0)
  is_receivers = (omega arith, subst (λ (n : ℕ). 1 ≤ n * cfg.receivers) (sym one) (omega (arith, range.receivers.0)), first_group)

  -- ---- the call of an act

  pub record Found (h : Record) (act : Act) : Type 0 where
    pub chain : Chain
    pub entry : Entry
    pub answer : Answer
    pub there : IsThere cfg chain
    pub of_chain : IsOfChain cfg chain entry
    pub answers : AnswersAfter cfg h chain entry.call answer
    pub reports : Reports number (record { chain = chain; entry = entry; answer = answer }) act

  module _ (h : Record) (single : length h.takes ≡ 1) (few : length (handed h 0) ≤ length (accepted h)) (alive : length (accepted h) < cfg.life) where
    abbrev out : ℕ
    out = length (handed h 0)

    abbrev items : List Item
    items = accepted h

    all : handed_to_all h ≡ out
    all = to_all h single

    held : length (waiting number out items) + out ≡ length items
    held = length-waiting number out items few

    of_send : (call : Call) (answer : Answer) (act : Act) → IsOfChain cfg Chain.Send (entry_of (Pass.Sender 1) call) → AnswersAfter cfg h Chain.Send call answer → Reports number (send call answer) act → Found h act
    of_send call answer act of_chain answers reports = record { chain = Chain.Send; entry = entry_of (Pass.Sender 1) call; answer = answer; there = tt; of_chain = of_chain; answers = answers; reports = reports }

    of_take : (answer : Answer) (act : Act) → AnswersAfter cfg h (Chain.Take 0) Call.Take answer → Reports number (take answer) act → Found h act
    of_take answer act answers reports = record { chain = Chain.Take 0; entry = entry_of (Pass.Receiver 1) Call.Take; answer = answer; there = omega (arith, one); of_chain = is_receivers; answers = answers; reports = reports }

    none_waits : waiting number out items ≡ [] → out ≡ length items
    none_waits is = omega (arith, held, ap length is)

    by_shut : (b : Bool) → is_shut h ≡ b → (act : Act) → (is_shut h ≡ true → Found h act) → (is_shut h ≡ false → Found h act) → Found h act
    by_shut true is act shut open_yet = shut is
    by_shut false is act shut open_yet = open_yet is

    found : (act : Act) (next : List ℕ) → Does (Some cfg.capacity) (waiting number out items) act next → Allows (is_shut h) act → Found h act
    found (Act.Send item) next does allows =
        of_send (Call.Send (body item)) (Answer.Send (SendAnswer.Accepted (length items))) (Act.Send item) is_senders
        (allows, (λ e. omega (arith, e, alive)), omega (arith, does.1, held, all), refl) (inl (ap (λ (n : ℕ). Some (Act.Send n)) (names item)))
    found (Act.Took item) next does allows =
        let x : (x : Item) × (slice_get items out ≡ Some x) × (number x.body ≡ item) = first_waits number out items item next does in
        of_take (Answer.Take (TakeAnswer.Got x.0)) (Act.Took item) x.1 (inl (ap (λ (n : ℕ). Some (Act.Took n)) x.2))
    found Act.FoundNone next does allows = by_shut (is_shut h) refl Act.FoundNone
        (λ shut. of_take (Answer.Take (TakeAnswer.Ended (length items))) Act.FoundNone (shut, none_waits does.0, refl) (inr (refl, refl)))
        (λ open_yet. of_take (Answer.Take TakeAnswer.Empty) Act.FoundNone (open_yet, none_waits does.0) (inl refl))
    found Act.Taking next does allows = absurd does
    found Act.Full next does allows = of_send (Call.Send (body 0)) (Answer.Send SendAnswer.Full) Act.Full is_senders (allows, (λ e. omega (arith, e, alive)), omega (arith, does.1, held, all)) (inl refl)
    found Act.Closed next does allows = of_send (Call.Send (body 0)) (Answer.Send SendAnswer.Closed) Act.Closed is_senders allows (inl refl)
    found Act.Ended next does allows = of_take (Answer.Take (TakeAnswer.Ended (length items))) Act.Ended (allows, none_waits does.0, refl) (inl refl)
    found Act.Close next does allows = by_shut (is_shut h) refl Act.Close
        (λ shut. of_send Call.Close (Answer.Close (CloseAnswer.Already (length items))) Act.Close is_senders (shut, refl) (inl refl))
        (λ open_yet. of_send Call.Close (Answer.Close (CloseAnswer.Shut (length items))) Act.Close is_senders (open_yet, refl) (inl refl))

  -- ---- the calls of all acts

  abbrev after : List Effect → Record
  after order = replay cfg.groups order

  -- of the acts so far
  pub record So (done : List Step) (held : List ℕ) (closed : Bool) : Type 0 where
    pub order : List Effect
    pub exact : IsExact cfg order
    pub report : ReportAll number order done
    pub each : length order ≡ length done
    pub few : length (handed (after order) 0) ≤ length (accepted (after order))
    pub life : length (accepted (after order)) ≤ length order
    pub held_is : held ≡ waiting number (length (handed (after order) 0)) (accepted (after order))
    pub closed_is : closed ≡ is_shut (after order)

  accepts_few : (e : Entry) (a : Answer) → length (accepted_item e a) ≤ 1
  accepts_few e (Answer.Send (SendAnswer.Accepted place)) = sent_few e.pass e.call
    where
      sent_few : (pass : Pass) (k : Call) → length (sent_item pass k e.number place) ≤ 1
      sent_few (Pass.Sender s) (Call.Send b) = omega arith
      sent_few (Pass.Sender s) Call.Close = omega arith
      sent_few (Pass.Sender s) Call.Take = omega arith
      sent_few (Pass.Receiver r) k = omega arith
  accepts_few e (Answer.Send SendAnswer.Full) = omega arith
  accepts_few e (Answer.Send SendAnswer.Closed) = omega arith
  accepts_few e (Answer.Send SendAnswer.Spent) = omega arith
  accepts_few e (Answer.Close told) = omega arith
  accepts_few e (Answer.Take told) = omega arith

  accepts_one : (h : Record) (x : Chain) (e : Entry) (a : Answer) → length h.sends.calls ≡ length h.sends.answers → length (accepted (noted x h (Some e) (Some a))) ≤ length (accepted h) + 1
  accepts_one h Chain.Send e a even = omega (arith, ap length (send_accepted h e a even), length-append (accepted h) (accepted_item e a), accepts_few e a)
  accepts_one h (Chain.Take g) e a even = omega arith

  more : (done : List Step) (held : List ℕ) (closed : Bool) (s : Step) (next : List ℕ) → length done < cfg.life → Does (Some cfg.capacity) held s.act next → Allows closed s.act → So done held closed → So (done ++ s ∷ []) next (closed_after closed s.act)
  more done held closed s next alive does allows so = record {
    order = e ∷ so.order;
    exact = (so.exact, f.there, f.of_chain, f.answers);
    report = (done, so.report, inl (s, f.reports, refl));
    each = omega (arith, so.each, length-append done (s ∷ []));
    few = g.few;
    life = omega (arith, so.life, accepts_one h f.chain f.entry f.answer (replay_even cfg.groups so.order).0);
    held_is = one_next (Some cfg.capacity) (waiting number (length (handed h 0)) (accepted h)) next _ s.act does_so to.0;
    closed_is = ap (λ (b : Bool). closed_after b s.act) so.closed_is ∙ to.2;
  }
    where
      h : Record
      h = after so.order

      does_so : Does (Some cfg.capacity) (waiting number (length (handed h 0)) (accepted h)) s.act next
      does_so = subst (λ (l : List ℕ). Does (Some cfg.capacity) l s.act next) so.held_is does

      f : Found h s.act
      f = found h (replay_groups cfg.groups so.order ∙ one) so.few (omega (arith, so.life, so.each, alive)) s.act next does_so (subst (λ (b : Bool). Allows b s.act) so.closed_is allows)

      e : Effect
      e = record { chain = f.chain; entry = f.entry; answer = f.answer }

      g : Grows cfg number one h (after (e ∷ so.order)) e
      g = grows cfg number one so.order f.chain f.entry f.answer so.few f.there f.of_chain f.answers

      to : Goes cfg number (accepted h) (is_shut h) (length (handed h 0)) s.act (accepted (after (e ∷ so.order))) (is_shut (after (e ∷ so.order))) (length (handed (after (e ∷ so.order)) 0))
      to = g.goes s.act f.reports

  follow : (rest done : List Step) (held : List ℕ) (closed : Bool) → length done + length rest ≤ cfg.life → IsRun (Some cfg.capacity) held rest → Closes closed rest → So done held closed → IsOfExact cfg number (done ++ rest)
  follow [] done held closed alive run closes so =
      subst (λ (l : List Step). IsOfExact cfg number l) (sym (append-nil done)) (record { order = so.order; exact = so.exact; report = so.report; each = so.each })
  follow (s ∷ rest) done held closed alive run closes so =
      subst (λ (l : List Step). IsOfExact cfg number l) (append_assoc done (s ∷ []) rest)
      (follow rest (done ++ s ∷ []) run.0 (closed_after closed s.act) (omega (arith, alive, length-append done (s ∷ []))) run.2 closes.1 (more done held closed s run.0 (omega (arith, alive)) run.1 closes.0 so))

  nothing : (n : ℕ) → [] ≡ waiting number n []
  nothing zero = refl
  nothing (suc n) = refl

  pub answered_orders : (steps : List Step) → length steps ≤ cfg.life → IsAnswered cfg.capacity steps → IsOfExact cfg number steps
  answered_orders steps alive answered = follow steps [] [] false (omega (arith, alive)) answered.0 answered.1 (record {
    order = [];
    exact = tt;
    report = refl;
    each = refl;
    few = subst (λ (s : Side). length (handed_by s.answers) ≤ 0) (sym (no_calls cfg.groups (Chain.Take 0))) (omega arith);
    life = omega arith;
    held_is = nothing (length (handed (after []) 0));
    closed_is = refl;
  })

pub answered_orders_are_exact : AnsweredOrdersAreExact
answered_orders_are_exact cfg number body steps checked one names alive answered = answered_orders cfg number body checked one names steps alive answered
